use Rattle.std.proofs.Common.{◌∙◌}
use Rattle.state_cells.specs.Lifetimes.{invocations}
use Rattle.state_cells.proofs.Living.{value-then, from-write}
use Rattle.state_cells.proofs.laws.a_value_lives_from_its_write.Goals as goal

pub returns : goal.returns
returns c = λ cells cell name value start moment calls there spare mode up. value-then cells cell name value start moment calls there spare ∙ from-write cell.spec value (invocations calls) start moment mode up
