use Rattle.checkpoint_drive.proofs.OfMachine.{committed_is_of_machine}
use Rattle.checkpoint_drive.proofs.laws.what_is_committed_is_of_the_machine.Goals as goal

pub returns : goal.returns
returns c = committed_is_of_machine
