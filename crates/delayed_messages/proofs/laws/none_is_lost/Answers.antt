use Rattle.delayed_messages.proofs.Outcomes.{none-is-lost}
use Rattle.delayed_messages.proofs.laws.none_is_lost.Goals as goal

pub returns : goal.returns
returns c = none-is-lost
