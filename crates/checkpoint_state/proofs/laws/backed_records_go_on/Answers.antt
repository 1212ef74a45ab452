use Rattle.checkpoint_state.proofs.Egress.{backing_grows}
use Rattle.checkpoint_state.proofs.laws.backed_records_go_on.Goals as goal

pub returns : goal.returns
returns c = backing_grows
