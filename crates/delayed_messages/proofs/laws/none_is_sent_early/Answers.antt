use Rattle.delayed_messages.proofs.Outcomes.{none-is-early}
use Rattle.delayed_messages.proofs.laws.none_is_sent_early.Goals as goal

pub returns : goal.returns
returns c = none-is-early
