use Rattle.checkpoint_state.proofs.Good.{legs_keep_good}
use Rattle.checkpoint_state.proofs.laws.a_later_leg_keeps_what_is_good.Goals as goal

pub returns : goal.returns
returns c = legs_keep_good
