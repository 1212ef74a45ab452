use Rattle.partition_core.proofs.TheMachine.{is_the_machine}
use Rattle.partition_core.proofs.laws.a_partition_is_the_machine.Goals as goal

pub returns : goal.returns
returns c = is_the_machine
