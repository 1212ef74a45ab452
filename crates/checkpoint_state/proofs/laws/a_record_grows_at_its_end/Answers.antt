use Rattle.checkpoint_state.proofs.Records.{records_grow}
use Rattle.checkpoint_state.proofs.laws.a_record_grows_at_its_end.Goals as goal

pub returns : goal.returns
returns c = records_grow
