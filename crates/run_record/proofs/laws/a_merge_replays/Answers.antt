use Rattle.run_record.proofs.ByKeys.{merge_replays}
use Rattle.run_record.proofs.laws.a_merge_replays.Goals as goal

pub returns : goal.returns
returns c m lists first st old entries world replays later rises lead = merge_replays m lists first st old entries world replays later rises lead
