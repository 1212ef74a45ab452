use Rattle.std.proofs.Common.{◌∙◌, ap}
use Rattle.typed_values.specs.Cells.{changed, emptied, found}
use Rattle.state_cells.specs.Answers.{clearing}
use Rattle.state_cells.proofs.Named.{found-lookup}
use Rattle.state_cells.proofs.Setting.{cleared-good, cleared-values}
use Rattle.state_cells.proofs.cells.Cells.delete.Goals as goal

pub invariant_of-self : goal.invariant_of-self
invariant_of-self c = cleared-good c.args.name.now c.self.inside.cells.entries _ c.self.invariant c.clear_named.result c.clear_named.ensures.cells c.clear_named.ensures.refused

pub returns-clause-answer : goal.returns-clause-answer
returns-clause-answer c = c.clear_named.ensures.answer ∙ ap clearing (found-lookup c.args.name.now c.self.inside.cells.entries c.self.invariant.0 ∙ ap (found c.args.name.now) c.self.view_is)

pub returns-clause-cells : goal.returns-clause-cells
returns-clause-cells c = cleared-values c.args.name.now c.self.inside.cells.entries _ c.self.invariant c.clear_named.result c.clear_named.ensures.answer c.clear_named.ensures.cells c.clear_named.ensures.refused ∙ ap (changed emptied c.args.name.now) c.self.view_is
