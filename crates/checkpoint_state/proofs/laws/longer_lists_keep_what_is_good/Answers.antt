use Rattle.checkpoint_state.proofs.Good.{lists_keep_good}
use Rattle.checkpoint_state.proofs.laws.longer_lists_keep_what_is_good.Goals as goal

pub returns : goal.returns
returns c = lists_keep_good
