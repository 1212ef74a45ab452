use Rattle.checkpoint_state.proofs.Stored.{work_is_stored}
use Rattle.checkpoint_state.proofs.laws.a_partition_is_stored_as_its_state.Goals as goal

pub returns : goal.returns
returns c = work_is_stored
