use Rattle.run_record.proofs.LawsOfOwn.{moments_rise}
use Rattle.run_record.proofs.laws.moments_never_fall.Goals as goal

pub returns : goal.returns
returns c m lists st last entries h address = moments_rise m lists st last entries h address
