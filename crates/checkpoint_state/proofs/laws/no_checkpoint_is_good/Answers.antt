use Rattle.checkpoint_state.proofs.Good.{none_is_good}
use Rattle.checkpoint_state.proofs.laws.no_checkpoint_is_good.Goals as goal

pub returns : goal.returns
returns c = none_is_good
