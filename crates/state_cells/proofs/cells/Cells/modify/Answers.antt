use Rattle.std.proofs.Common.{◌∙◌, ap}
use Rattle.typed_values.specs.Cells.{found}
use Rattle.state_cells.specs.Answers.{taking}
use Rattle.state_cells.proofs.Named.{found-lookup}
use Rattle.state_cells.proofs.Setting.{written-good, written-values}
use Rattle.state_cells.proofs.cells.Cells.modify.Goals as goal

pub invariant_of-self : goal.invariant_of-self
invariant_of-self c = written-good c.args.name.now c.args.value c.args.moment c.self.inside.cells.entries _ c.requires c.self.invariant c.write_named.result c.write_named.ensures.answer c.write_named.ensures.cells c.write_named.ensures.refused

pub returns-clause-answer : goal.returns-clause-answer
returns-clause-answer c = c.write_named.ensures.answer ∙ ap (taking c.args.value) (found-lookup c.args.name.now c.self.inside.cells.entries c.self.invariant.0 ∙ ap (found c.args.name.now) c.self.view_is)

pub returns-clause-cells : goal.returns-clause-cells
returns-clause-cells c = rw (← c.self.view_is) (written-values c.args.name.now c.args.value c.args.moment c.self.inside.cells.entries _ c.requires c.self.invariant c.write_named.result c.write_named.ensures.cells)
