use Rattle.std.proofs.Common.{◌∙◌}
use Rattle.state_cells.specs.Lifetimes.{invocations}
use Rattle.state_cells.proofs.Living.{value-then, stays}
use Rattle.state_cells.proofs.laws.a_value_stays_for_good.Goals as goal

pub returns : goal.returns
returns c = λ cells cell name value start moment calls there spare mode. value-then cells cell name value start moment calls there spare ∙ stays cell.spec value (invocations calls) start moment mode
