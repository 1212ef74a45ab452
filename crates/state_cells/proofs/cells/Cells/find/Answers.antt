use Rattle.std.proofs.Common.{◌∙◌, ap}
use Rattle.typed_values.specs.Cells.{found}
use Rattle.state_cells.proofs.Named.{found-lookup}
use Rattle.state_cells.proofs.cells.Cells.find.Goals as goal

pub returns : goal.returns
returns c = c.get.ensures.value ∙ found-lookup c.args.name.now c.self.inside.cells.entries c.self.invariant.0 ∙ ap (found c.args.name.now) c.self.view_is
