-- What is read of a folder, and when a block breaks its form.
use Rattle.std.specs.Prelude.{◌≡◌, ◌≢◌, ◌⊎◌, ℕ, ◌+◌, length, Bool, true, false, List, [], ◌∷◌, Some, None, Ok}
use Rattle.typed_values.specs.declared.letter.Letter.{Letter}
use Rattle.piece_messages.specs.declared.piece.Piece.{Piece}
use Rattle.std.specs.Option.{option_map_or}
use Rattle.sf_disk.specs.Moments.{Moment, WhereTold, newest}
use Rattle.block_log.specs.Blocks.{Body}
use Rattle.block_log.specs.Logs.{IsOpen}
use Rattle.folder_messages.specs.declared.manifest.Complete.{Complete}
use Rattle.folder_messages.specs.declared.manifest.Place.{Place}
use Rattle.store_faults.specs.declared.fault.StoreFault.{StoreFault}
use Rattle.store_faults.specs.Faults.{RefusesBy}
use Rattle.folder_form.specs.declared.shape.Shape.{Shape}
use Rattle.folder_form.specs.declared.loaded.Loaded.{Loaded}
use Rattle.folder_form.specs.Pieces.{owns_letters}
use Rattle.folder_form.specs.Folders.{Files, Part, block_at, is_piece, nothing_loaded, parts_from, spelled_at}
use Rattle.snapshot_files.specs.declared.store.Store.{Store}
use Rattle.snapshot_files.specs.Stores.{AreOpen, complete_in, home_in}

-- the block at that place of that file spells nothing that may stand there
abbrev pub BreaksThere : Store → List Moment → ℕ → ℕ → (Body → Bool) → StoreFault → Type 0
BreaksThere store moments file place is_right =
    RefusesBy (λ named at. WhereTold moments (λ now. (named ≡ file) × (at ≡ place)
    × ((files : Files) → AreOpen files now 2 store.logs.items → option_map_or is_right (block_at place (files file)) false ≡ false)))

-- a refusal comes only from a disk that does not tell
abbrev pub IsUntold : List Moment → StoreFault → Type 0
IsUntold moments = RefusesBy (λ file place. newest moments ≡ None)

-- ---- checkpoints

-- the block at that place of the manifest spells this
abbrev pub HasComplete : Files → ℕ → Complete → Type 0
HasComplete files place complete = spelled_at complete_in (block_at place (files 0)) ≡ Some complete

-- no checkpoint with a place for each partition stands there
abbrev pub RefusesComplete : Store → ℕ → List Moment → StoreFault → Type 0
RefusesComplete store place moments =
    RefusesBy (λ file at. WhereTold moments (λ now. (files : Files) (complete : Complete) → IsOpen store.manifest (files 0) (now 0) → HasComplete files place complete → length complete.places ≢ store.shape.partitions))

-- these parts stand at the places
pub record HasPartsAt (store : Store) (moment : ℕ) (places : List Place) (now : Moment) (files : Files) (parts : List Part) : Type 0 where
  pub opened : AreOpen files now 2 store.logs.items
  pub are : parts_from store.shape.partitions 0 files moment places ≡ Ok parts

-- ---- what is loaded, whether the disk tells or not

-- pieces of the partitions from one on, with no moment behind that one
abbrev pub AreOwned : Shape → ℕ → ℕ → List Piece → Type 0
AreOwned shape moment partition [] = Unit {0}
AreOwned shape moment partition (piece ∷ pieces) = (is_piece (home_in shape partition) moment piece ≡ true) × AreOwned shape moment (partition + 1) pieces

-- letters for the partitions from one on
abbrev pub AreSorted : Shape → ℕ → List (List Letter) → Type 0
AreSorted shape partition [] = Unit {0}
AreSorted shape partition (letters ∷ others) = (owns_letters (home_in shape partition) letters ≡ true) × AreSorted shape (partition + 1) others

-- a checkpoint has a piece, and letters on the way, for each partition of its folder
pub record Fits (shape : Shape) (moment : ℕ) (pieces : List Piece) (feedback : List (List Letter)) : Type 0 where
  pub each_piece : AreOwned shape moment 0 pieces
  pub each_list : AreSorted shape 0 feedback
  pub pieces_len : length pieces ≡ shape.partitions
  pub lists_len : length feedback ≡ shape.partitions

abbrev pub FitsShape : Shape → Loaded → Type 0
FitsShape shape loaded = (loaded ≡ nothing_loaded) ⊎ Fits shape loaded.moment loaded.pieces loaded.feedback
