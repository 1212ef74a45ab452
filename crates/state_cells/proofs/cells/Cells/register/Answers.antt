use Rattle.state_cells.proofs.Registering.{added-good, answers-same, added-values}
use Rattle.state_cells.proofs.cells.Cells.register.Goals as goal

pub invariant_of-self : goal.invariant_of-self
invariant_of-self c = added-good c.args.spec c.self.inside.cells.entries _ c.self.invariant c.register_named.result c.register_named.ensures.answer c.register_named.ensures.cells c.register_named.ensures.unique c.register_named.ensures.refused

pub returns-clause-answer : goal.returns-clause-answer
returns-clause-answer c = rw (← c.self.view_is) (answers-same c.args.spec c.self.inside.cells.entries c.self.inside.cells.entries c.self.invariant c.register_named.result c.register_named.ensures.answer)

pub returns-clause-cells : goal.returns-clause-cells
returns-clause-cells c = rw (← c.self.view_is) (added-values c.args.spec c.self.inside.cells.entries _ c.self.invariant c.register_named.result c.register_named.ensures.answer c.register_named.ensures.cells)
