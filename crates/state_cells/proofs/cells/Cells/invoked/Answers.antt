use Rattle.std.proofs.Common.{◌∙◌, ap, sym, map, subst}
use Rattle.std.specs.Map.{values_of}
use Rattle.typed_values.specs.Cells.{invoked}
use Rattle.state_cells.proofs.Named.{cells-each, values-each}
use Rattle.state_cells.proofs.Invoking.{invoked-name, invoked-kept}
use Rattle.state_cells.proofs.Setting.{Good}
use Rattle.state_cells.proofs.cells.Cells.invoked.Goals as goal

pub invariant_of-self : goal.invariant_of-self
invariant_of-self c = subst Good (sym c.invoke_all.ensures) (cells-each (invoked c.args.moment) (invoked-name c.args.moment) (invoked-kept c.args.moment) c.self.inside.cells.entries c.self.invariant.0 c.self.invariant.1)

pub returns : goal.returns
returns c = ap values_of c.invoke_all.ensures ∙ values-each (invoked c.args.moment) c.self.inside.cells.entries ∙ ap (map (invoked c.args.moment)) c.self.view_is
