use Rattle.checkpoint_state.proofs.Stored.{newest_is_loaded}
use Rattle.checkpoint_state.proofs.laws.the_last_checkpoint_is_loaded.Goals as goal

pub returns : goal.returns
returns c = newest_is_loaded
