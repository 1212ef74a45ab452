use Rattle.run_record.proofs.ByKeys.{step_at_key}
use Rattle.run_record.proofs.laws.a_step_goes_to_its_key.Goals as goal

pub returns : goal.returns
returns c m lists st last next entries entry rises apart own replays steps early = step_at_key m lists st last next entries entry rises apart own replays steps early
