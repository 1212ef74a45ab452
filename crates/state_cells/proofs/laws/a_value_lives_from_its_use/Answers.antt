use Rattle.std.proofs.Common.{◌∙◌}
use Rattle.state_cells.specs.Lifetimes.{invocations}
use Rattle.state_cells.proofs.Living.{value-then, from-use}
use Rattle.state_cells.proofs.laws.a_value_lives_from_its_use.Goals as goal

pub returns : goal.returns
returns c = λ cells cell name value start moment calls there spare mode. value-then cells cell name value start moment calls there spare ∙ from-use cell.spec value (invocations calls) start moment mode
