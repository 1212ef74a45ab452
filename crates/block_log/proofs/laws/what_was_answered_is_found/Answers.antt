use Rattle.block_log.proofs.Lives.{left_behind}
use Rattle.block_log.proofs.laws.what_was_answered_is_found.Goals as goal

pub returns : goal.returns
returns c = left_behind
