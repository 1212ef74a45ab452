use Rattle.partition_core.proofs.InTurn.{due_is_made}
use Rattle.partition_core.proofs.laws.a_due_letter_is_made.Goals as goal

pub returns : goal.returns
returns c = due_is_made
