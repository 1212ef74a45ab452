-- What a store tells of itself without its disk.
use Rattle.std.specs.Prelude.{◌≡◌, ℕ, ◌<◌, ◌≤◌, slice_get, Bool, false, true, is_some, Option}
use Rattle.std.specs.Option.{option_map_or}
use Rattle.snapshot_files.specs.declared.slot.Slot.{Slot}
use Rattle.snapshot_files.specs.declared.store.Store.{Store}

abbrev pub slot_at : Store → ℕ → Option Slot
slot_at store partition = slice_get store.slots.items partition

-- what was put for a partition since the newest checkpoint
abbrev pub has_piece : Store → ℕ → Bool
has_piece store partition = option_map_or (λ slot. is_some slot.piece) (slot_at store partition) false

abbrev pub has_letters : Store → ℕ → Bool
has_letters store partition = option_map_or (λ slot. is_some slot.letters) (slot_at store partition) false

-- the greatest moment in its piece
abbrev pub latest_put : Store → ℕ → ℕ
latest_put store partition = option_map_or (λ slot. slot.latest) (slot_at store partition) 0

-- each partition has a piece and letters, and no moment of a piece is above that one
abbrev pub AreAllPut : Store → ℕ → Type 0
AreAllPut store moment =
    (partition : ℕ) → partition < store.shape.partitions
    → (has_piece store partition ≡ true) × (has_letters store partition ≡ true) × (latest_put store partition ≤ moment)
