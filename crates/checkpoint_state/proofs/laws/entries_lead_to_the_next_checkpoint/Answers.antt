use Rattle.checkpoint_state.proofs.Egress.{entries_lead}
use Rattle.checkpoint_state.proofs.laws.entries_lead_to_the_next_checkpoint.Goals as goal

pub returns : goal.returns
returns c = entries_lead
