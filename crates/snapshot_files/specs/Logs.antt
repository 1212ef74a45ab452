-- The logs of a store.
use Rattle.std.specs.Prelude.{◌≡◌, ℕ, ◌+◌, List, slice_get, Some, IsFalse}
use Rattle.block_log.specs.declared.log.BlockLog.{BlockLog}

-- the logs are of files that follow one another
abbrev pub AreFiles : ℕ → List BlockLog → Type 0
AreFiles first logs = (number : ℕ) (log : BlockLog) → slice_get logs number ≡ Some log → log.file ≡ first + number

abbrev pub AreUsable : List BlockLog → Type 0
AreUsable logs = (number : ℕ) (log : BlockLog) → slice_get logs number ≡ Some log → IsFalse log.spent
