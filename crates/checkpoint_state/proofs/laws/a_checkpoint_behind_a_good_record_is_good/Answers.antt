use Rattle.checkpoint_state.proofs.Good.{next_keeps_good}
use Rattle.checkpoint_state.proofs.laws.a_checkpoint_behind_a_good_record_is_good.Goals as goal

pub returns : goal.returns
returns c = next_keeps_good
