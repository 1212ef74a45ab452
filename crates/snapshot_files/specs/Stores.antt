-- Stores that are open, and what a folder stands for.
use Rattle.std.specs.Prelude.{◌≡◌, ℕ, ◌+◌, ◌<◌, List, [], ◌∷◌, length, slice_get, Option, Some, None, Ok}
use Rattle.typed_values.specs.declared.letter.Letter.{Letter}
use Rattle.sf_disk.specs.Moments.{Moment, Folder}
use Rattle.block_log.specs.Blocks.{Body, StandsFor}
use Rattle.block_log.specs.Logs.{IsOpen}
use Rattle.block_log.specs.declared.log.BlockLog.{BlockLog}
use Rattle.folder_messages.specs.declared.manifest.Manifest.{Manifest}
use Rattle.folder_messages.specs.declared.manifest.Manifest.TheVariants as says
use Rattle.folder_messages.specs.declared.manifest.Complete.{Complete}
use Rattle.folder_messages.specs.ManifestSpelling.{manifest_value}
use Rattle.piece_messages.specs.declared.piece.Piece.{Piece}
use Rattle.folder_form.specs.declared.shape.Shape.{Shape}
use Rattle.folder_form.specs.declared.pieces.Home.{Home}
use Rattle.folder_form.specs.Folders.{Checkpoint, Contents, Files, Held, form_of, file_of, block_at, spelled_at, piece_in, letters_in, parts_from, valued, mark_of}
use Rattle.snapshot_files.specs.declared.store.Store.{Store}
use Rattle.snapshot_files.specs.declared.slot.Slot.{Slot}

-- ---- folders

-- the manifest is file 0, and 16 files for partitions stand from 2 on
abbrev pub most_partitions : ℕ
most_partitions = 16

-- these files of a folder are logs of these blocks
pub record AreLogs (folder : Folder) (files : Files) : Type 0 where
  pub manifest : StandsFor (folder 0) (files 0)
  pub logs : (partition : ℕ) → partition < most_partitions → StandsFor (folder (file_of partition)) (files (file_of partition))

-- what a folder stands for; None is one whose manifest has no block
pub record HasForm (folder : Folder) (form : Option Held) : Type 0 where
  pub files : Files
  pub are_logs : AreLogs folder files
  pub form_is : form_of files ≡ Ok form

-- ---- stores

-- a partition of so many
abbrev pub home_in : Shape → ℕ → Home
home_in shape partition = record { partitions = shape.partitions; partition = partition }

-- what was put for a partition since the newest checkpoint
pub record Pending : Type 0 where
  pub piece : Option Piece
  pub letters : Option (List Letter)

abbrev pub nothing_pending : ℕ → Pending
nothing_pending partition = record { piece = None; letters = None }

-- what was put stands at its place
abbrev pub IsPut : {A : Type 0} → (Body → Option A) → List Body → Option ℕ → Option A → Type 0
IsPut read bodies None None = Unit {0}
IsPut read bodies (Some place) (Some put) = spelled_at read (block_at place bodies) ≡ Some put
IsPut read bodies None (Some put) = ⊥
IsPut read bodies (Some place) None = ⊥

pub record IsSlot (home : Home) (bodies : List Body) (slot : Slot) (pending : Pending) : Type 0 where
  pub piece : IsPut (piece_in home slot.latest) bodies slot.piece pending.piece
  pub letters : IsPut (letters_in home) bodies slot.letters pending.letters

-- the checkpoint that a block of the manifest completes
abbrev pub completes : Option Manifest → Option Complete
completes None = None
completes (Some (says.Job job)) = None
completes (Some (says.Opening opening)) = None
completes (Some (says.Complete complete)) = Some complete

unfoldable pub complete_in : Body → Option Complete
complete_in body = completes (valued (manifest_value body))

-- a checkpoint's block stands at that place, and its parts at the places that it names
pub record IsKept (shape : Shape) (files : Files) (place : ℕ) (checkpoint : Checkpoint) : Type 0 where
  pub complete : Complete
  pub block : spelled_at complete_in (block_at place (files 0)) ≡ Some complete
  pub mark : checkpoint.mark ≡ mark_of complete
  pub parts : parts_from shape.partitions 0 files complete.moment complete.places ≡ Ok checkpoint.parts

abbrev pub AreKept : Shape → Files → List ℕ → List Checkpoint → Type 0
AreKept shape files [] [] = Unit {0}
AreKept shape files (place ∷ places) (checkpoint ∷ checkpoints) = IsKept shape files place checkpoint × AreKept shape files places checkpoints
AreKept shape files [] (checkpoint ∷ checkpoints) = ⊥
AreKept shape files (place ∷ places) [] = ⊥

-- the number of the newest checkpoint, 0 for none
abbrev pub newest : Store → ℕ
newest store = length store.completes

abbrev pub held_by : Store → Contents → Held
held_by store contents = record { text = store.text; shape = store.shape; contents = contents }

-- each outcome of a crash has these blocks
abbrev pub AreOpen : Files → Moment → ℕ → List BlockLog → Type 0
AreOpen files now file logs = (partition : ℕ) (log : BlockLog) → slice_get logs partition ≡ Some log → IsOpen log (files (file + partition)) (now (file + partition))

abbrev pub AreSlots : Store → Files → (ℕ → Pending) → Type 0
AreSlots store files pending =
    (partition : ℕ) (slot : Slot) → slice_get store.slots.items partition ≡ Some slot
    → IsSlot (home_in store.shape partition) (files (file_of partition)) slot (pending partition)

-- The store stands for these contents, and these parts were put since the newest checkpoint: so says each outcome of a crash.
pub record IsStore (store : Store) (contents : Contents) (pending : ℕ → Pending) (now : Moment) : Type 0 where
  pub files : Files
  pub manifest : IsOpen store.manifest (files 0) (now 0)
  pub logs : AreOpen files now 2 store.logs.items
  pub form_is : form_of files ≡ Ok (Some (held_by store contents))
  pub kept : AreKept store.shape files store.completes contents.checkpoints
  pub slots : AreSlots store files pending
  pub newest_is : newest store ≡ length contents.checkpoints
  pub leg_is : store.stored_leg ≡ contents.leg
