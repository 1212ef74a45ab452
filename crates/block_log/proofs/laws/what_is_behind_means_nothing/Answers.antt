use Rattle.block_log.proofs.Unique.{behind_nothing}
use Rattle.block_log.proofs.laws.what_is_behind_means_nothing.Goals as goal

pub returns : goal.returns
returns c = behind_nothing
