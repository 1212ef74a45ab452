use Rattle.std.proofs.Common.{◌∙◌, ap, sym, subst, take}
use Rattle.std.specs.Map.{values_of}
use Rattle.state_cells.proofs.Setting.{Good}
use Rattle.state_cells.proofs.Fronts.{good-take, values-take}
use Rattle.state_cells.proofs.cells.Cells.truncate.Goals as goal

pub invariant_of-self : goal.invariant_of-self
invariant_of-self c = subst Good (sym c.truncate.ensures.entries) (good-take c.args.len c.self.inside.cells.entries c.self.invariant)

pub returns : goal.returns
returns c = ap values_of c.truncate.ensures.entries ∙ values-take c.args.len c.self.inside.cells.entries ∙ ap (take c.args.len) c.self.view_is
