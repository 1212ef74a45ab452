use Rattle.checkpoint_state.proofs.Egress.{egress_changes_no_step}
use Rattle.checkpoint_state.proofs.laws.egress_changes_no_step.Goals as goal

pub returns : goal.returns
returns c = egress_changes_no_step
