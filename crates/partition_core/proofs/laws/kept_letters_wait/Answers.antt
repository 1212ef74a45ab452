use Rattle.partition_core.proofs.KeptWaiting.{kept_letters_wait}
use Rattle.partition_core.proofs.laws.kept_letters_wait.Goals as goal

pub returns : goal.returns
returns c = kept_letters_wait
