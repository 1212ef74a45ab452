use Rattle.partition_core.proofs.InTurn.{answers_are_asked}
use Rattle.partition_core.proofs.laws.answers_in_turn_are_asked.Goals as goal

pub returns : goal.returns
returns c = answers_are_asked
