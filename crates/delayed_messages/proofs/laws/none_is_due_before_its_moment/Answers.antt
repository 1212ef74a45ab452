use Rattle.delayed_messages.proofs.Outcomes.{none-is-due}
use Rattle.delayed_messages.proofs.laws.none_is_due_before_its_moment.Goals as goal

pub returns : goal.returns
returns c = none-is-due
