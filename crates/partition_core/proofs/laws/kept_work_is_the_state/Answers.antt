use Rattle.partition_core.proofs.KeptWaiting.{kept_is_the_state}
use Rattle.partition_core.proofs.laws.kept_work_is_the_state.Goals as goal

pub returns : goal.returns
returns c = kept_is_the_state
