use Rattle.checkpoint_state.proofs.Egress.{work_leads_on}
use Rattle.checkpoint_state.proofs.laws.work_leads_on_behind_egress.Goals as goal

pub returns : goal.returns
returns c = work_leads_on
