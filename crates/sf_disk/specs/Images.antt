-- What a crash may leave of a file. What was synced stands, but where a write or a cut touched it since.
use Rattle.std.specs.Prelude.{◌≡◌, ◌⊎◌, ℕ, ◌+◌, ◌≤◌, min, max, List, [], ◌∷◌, ◌++◌, length, take, drop}

-- A write of n bytes at an offset, of which a crash may keep any part. Its range, and what lies past the old end, may hold any bytes;
-- the bytes outside stand. The length is the old one, the new one or one between.
pub record Torn (at n : ℕ) (old new : List ℕ) : Type 0 where
  pub before : take at new ≡ take at old
  pub behind : drop (at + n) new ≡ drop (at + n) old
  pub no_shorter : length old ≤ length new
  pub no_longer : length new ≤ max (length old) (at + n)

-- A cut to n bytes, of which a crash may keep any part: a front of the file, whose length is the old one, the new one or one between.
pub record Shortened (n : ℕ) (old new : List ℕ) : Type 0 where
  pub no_shorter : min (length old) n ≤ length new
  pub front : new ≡ take (length new) old

-- a change that no sync has followed: a write at an offset of that many bytes, or a cut to a length
pub data Step : Type 0 where
  Wrote : (at n : ℕ) → Step
  Shrank : (len : ℕ) → Step

abbrev pub Makes : Step → List ℕ → List ℕ → Type 0
Makes (Wrote at n) old new = Torn at n old new
Makes (Shrank len) old new = Shortened len old new

-- one file at one moment: as it reads, as it was synced last, and the changes since, the newest of them first
pub record FileState : Type 0 where
  pub seen : List ℕ
  pub synced : List ℕ
  pub unsynced : List Step

-- from what was synced, some part of each change
abbrev pub Reaches : List ℕ → List Step → List ℕ → Type 0
Reaches synced [] bytes = bytes ≡ synced
Reaches synced (step ∷ earlier) bytes = (before : List ℕ) × Reaches synced earlier before × Makes step before bytes

-- what a crash may leave of the file: what a read gives, or some part of each change
abbrev pub Leaves : FileState → List ℕ → Type 0
Leaves state bytes = (bytes ≡ state.seen) ⊎ Reaches state.synced state.unsynced bytes

-- a crash leaves what a read gives, and nothing else
abbrev pub IsSynced : FileState → Type 0
IsSynced state = (bytes : List ℕ) → Leaves state bytes → bytes ≡ state.seen

-- these bytes at this offset
abbrev pub patched : List ℕ → ℕ → List ℕ → List ℕ
patched old at bytes = take at old ++ bytes ++ drop (at + length bytes) old

abbrev pub Same : List ℕ → List ℕ → Type 0
Same old new = new ≡ old

-- each outcome of a crash is an earlier outcome after the step, and so is what a read gives
pub record Follows (step : List ℕ → List ℕ → Type 0) (old new : FileState) : Type 0 where
  pub crash : (bytes : List ℕ) → Leaves new bytes → (before : List ℕ) × Leaves old before × step before bytes
  pub reads : step old.seen new.seen

-- the same, where it is known too what a read gives
pub record Done (step : List ℕ → List ℕ → Type 0) (read : List ℕ → List ℕ) (old new : FileState) : Type 0 where
  pub follows : Follows step old new
  pub seen : new.seen ≡ read old.seen

-- nothing was changed, and all is synced
pub record Synced (old new : FileState) : Type 0 where
  pub follows : Follows Same old new
  pub all : IsSynced new
