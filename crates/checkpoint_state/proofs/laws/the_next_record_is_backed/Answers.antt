use Rattle.checkpoint_state.proofs.Egress.{next_is_backed}
use Rattle.checkpoint_state.proofs.laws.the_next_record_is_backed.Goals as goal

pub returns : goal.returns
returns c = next_is_backed
