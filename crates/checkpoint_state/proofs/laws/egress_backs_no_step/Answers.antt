use Rattle.checkpoint_state.proofs.Egress.{egress_backs_no_step}
use Rattle.checkpoint_state.proofs.laws.egress_backs_no_step.Goals as goal

pub returns : goal.returns
returns c = egress_backs_no_step
