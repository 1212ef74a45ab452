-- Files that are too short for a block.
use Rattle.std.specs.Prelude.{◌≡◌, ℕ, [], length}
use Rattle.sf_disk.specs.Images.{FileState, Follows, IsSynced}
use Rattle.block_log.specs.Blocks.{Keeps}
use Rattle.block_log.specs.Logs.{AtRest}

-- the file is of that length, and all of it is synced
pub record IsShort (len : ℕ) (state : FileState) : Type 0 where
  pub len_is : len ≡ length state.seen
  pub all : IsSynced state

-- its closed gate stands
pub record Mended (old new : FileState) : Type 0 where
  pub follows : Follows Keeps old new
  pub rest : AtRest new []
