use Rattle.delayed_messages.proofs.Outcomes.{cancels-its-own}
use Rattle.delayed_messages.proofs.laws.a_cancellation_takes_its_own.Goals as goal

pub returns : goal.returns
returns c = cancels-its-own
