use Rattle.delayed_messages.proofs.Outcomes.{least-is-due}
use Rattle.delayed_messages.proofs.laws.the_least_is_due.Goals as goal

pub returns : goal.returns
returns c = least-is-due
