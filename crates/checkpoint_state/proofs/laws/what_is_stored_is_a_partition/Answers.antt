use Rattle.checkpoint_state.proofs.Stored.{checkpoints_are_work}
use Rattle.checkpoint_state.proofs.laws.what_is_stored_is_a_partition.Goals as goal

pub returns : goal.returns
returns c = checkpoints_are_work
