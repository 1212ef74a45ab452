-- What the calls that write make of a folder.
use Rattle.std.specs.Prelude.{◌≡◌, ◌≢◌, ◌⊎◌, ℕ, ◌+◌, zero, suc, List, [], ◌∷◌, ◌++◌, map, take, nat_eq, if◌then◌else◌, Option, Some, None, Ok}
use Rattle.std.specs.Option.{unwrap_or}
use Rattle.typed_values.specs.declared.letter.Letter.{Letter}
use Rattle.sf_disk.specs.Moments.{Moment, Folder, IsImage, Others, InFile}
use Rattle.block_log.specs.declared.log.BlockLog.{BlockLog}
use Rattle.block_log.specs.Blocks.{Body, extent}
use Rattle.block_log.specs.Logs.{Adds, Added, WithOrWithout}
use Rattle.folder_messages.specs.declared.manifest.Manifest.{Manifest}
use Rattle.folder_messages.specs.declared.manifest.Place.{Place}
use Rattle.folder_messages.specs.ManifestSpelling.{manifest_value}
use Rattle.piece_messages.specs.declared.piece.Piece.{Piece}
use Rattle.folder_form.specs.declared.mark.Mark.{Mark}
use Rattle.folder_form.specs.Folders.{Part, Contents, Files, file_of, with_leg, with_checkpoint}
use Rattle.snapshot_files.specs.declared.slot.Slot.{Slot}
use Rattle.snapshot_files.specs.declared.store.Store.{Store}
use Rattle.snapshot_files.specs.Usable.{slot_at}
use Rattle.snapshot_files.specs.Stores.{AreOpen, HasForm, Pending, nothing_pending, IsStore, held_by}

-- ---- what was put

abbrev pub with_piece : ℕ → Piece → (ℕ → Pending) → ℕ → Pending
with_piece partition piece pending other = if nat_eq other partition then record (pending other) { piece = Some piece } else pending other

abbrev pub with_letters : ℕ → List Letter → (ℕ → Pending) → ℕ → Pending
with_letters partition letters pending other = if nat_eq other partition then record (pending other) { letters = Some letters } else pending other

-- a partition's part, where both were put
abbrev pub part_of : Option Piece → Option (List Letter) → Option Part
part_of (Some piece) (Some letters) = Some (record { piece = piece; letters = letters })
part_of None letters = None
part_of (Some piece) None = None

abbrev pub and_parts : Option Part → Option (List Part) → Option (List Part)
and_parts (Some part) (Some parts) = Some (part ∷ parts)
and_parts None parts = None
and_parts (Some part) None = None

-- those of so many partitions, from one on
abbrev pub parts_put : ℕ → ℕ → (ℕ → Pending) → Option (List Part)
parts_put zero partition pending = Some []
parts_put (suc more) partition pending =
    and_parts (part_of (pending partition).piece (pending partition).letters) (parts_put more (partition + 1) pending)

-- ---- one block

-- a block is added behind those of a file
abbrev pub with_block : ℕ → Body → Files → Files
with_block file body files other = if nat_eq other file then files other ++ body ∷ [] else files other

-- while a block is added to the file of a log: each outcome of a crash has the blocks before, with this one or without
pub record Grows (file : ℕ) (body : Body) (logs : List BlockLog) (first later : Moment) : Type 0 where
  pub others : Others file first later
  pub either : (files : Files) → AreOpen files first 2 logs → WithOrWithout (files file) body (later file)

-- it was added, at that place
pub record Grown (file place : ℕ) (body : Body) (logs now : List BlockLog) (first later : Moment) : Type 0 where
  pub others : Others file first later
  pub place_is : (files : Files) → AreOpen files first 2 logs → place ≡ extent (files file)
  pub are_open : (files : Files) → AreOpen files first 2 logs → AreOpen (with_block file body files) later 2 now

-- a store of which a partition's log changed, and maybe what was put: all else is as it was
pub record IsBeside (store now : Store) : Type 0 where
  pub manifest : now.manifest ≡ store.manifest
  pub text : now.text ≡ store.text
  pub shape : now.shape ≡ store.shape
  pub completes : now.completes ≡ store.completes
  pub stored_leg : now.stored_leg ≡ store.stored_leg
  pub spent : now.spent ≡ store.spent

-- while this is said in the manifest, whose log that is: a block that spells it is added
pub record Says (said : Manifest) (log : BlockLog) (first later : Moment) : Type 0 where
  pub body : Body
  pub spells : manifest_value body ≡ Ok said
  pub adds : InFile 0 (Adds log body) first later

-- it was said, by the block at that place
pub record Said (said : Manifest) (place : ℕ) (log now : BlockLog) (first later : Moment) : Type 0 where
  pub body : Body
  pub spells : manifest_value body ≡ Ok said
  pub added : InFile 0 (Added log now body) first later
  pub place_is : place ≡ log.end

-- the places of what was put for a partition, 0 for nothing
abbrev pub place_of : Slot → Place
place_of slot = record { piece = unwrap_or slot.piece 0; feedback = unwrap_or slot.letters 0 }

abbrev pub places_put : Store → List Place
places_put store = map place_of (take store.shape.partitions store.slots.items)

-- ---- calls

-- of a store that put something for a partition, all else is as it was
pub record IsUnchanged (partition : ℕ) (store now : Store) : Type 0 where
  pub text : now.text ≡ store.text
  pub shape : now.shape ≡ store.shape
  pub completes : now.completes ≡ store.completes
  pub stored_leg : now.stored_leg ≡ store.stored_leg
  pub slots : (other : ℕ) → other ≢ partition → slot_at now other ≡ slot_at store other

-- Other files are as they were, and each outcome of a crash stands for what stood.
pub record Keeps (file : ℕ) (store : Store) (first later : Moment) : Type 0 where
  pub others : Others file first later
  pub stands : (contents : Contents) (pending : ℕ → Pending) → IsStore store contents pending first
      → (folder : Folder) → IsImage later folder → HasForm folder (Some (held_by store contents))

-- Other files than the manifest are as they were. Each outcome of a crash stands for what stood, or for what was written.
pub record Writes (store : Store) (next : Contents → (ℕ → Pending) → Option Contents) (first later : Moment) : Type 0 where
  pub others : Others 0 first later
  pub stands : (contents : Contents) (pending : ℕ → Pending) (written : Contents) → IsStore store contents pending first → next contents pending ≡ Some written
      → (folder : Folder) → IsImage later folder → HasForm folder (Some (held_by store contents)) ⊎ HasForm folder (Some (held_by store written))

-- it was put
pub record PutPiece (store now : Store) (piece : Piece) (first later : Moment) : Type 0 where
  pub others : Others (file_of piece.partition) first later
  pub is_store : (contents : Contents) (pending : ℕ → Pending) → IsStore store contents pending first
      → IsStore now contents (with_piece piece.partition piece pending) later

pub record PutLetters (store now : Store) (partition : ℕ) (letters : List Letter) (first later : Moment) : Type 0 where
  pub others : Others (file_of partition) first later
  pub is_store : (contents : Contents) (pending : ℕ → Pending) → IsStore store contents pending first
      → IsStore now contents (with_letters partition letters pending) later

-- a run with that limit of its legs
abbrev pub opened_run : ℕ → Contents → (ℕ → Pending) → Option Contents
opened_run limit contents pending = Some (with_leg limit contents)

pub record Began (store now : Store) (limit : ℕ) (first later : Moment) : Type 0 where
  pub others : Others 0 first later
  pub is_store : (contents : Contents) (pending : ℕ → Pending) → IsStore store contents pending first
      → IsStore now (with_leg limit contents) pending later

-- a checkpoint of that mark, with the parts that were put
abbrev pub marked : Mark → Contents → Option (List Part) → Option Contents
marked mark contents None = None
marked mark contents (Some parts) = Some (with_checkpoint mark parts contents)

abbrev pub completed_by : Store → Mark → Contents → (ℕ → Pending) → Option Contents
completed_by store mark contents pending = marked mark contents (parts_put store.shape.partitions 0 pending)

pub record Completed (store now : Store) (mark : Mark) (first later : Moment) : Type 0 where
  pub others : Others 0 first later
  pub is_store : (contents : Contents) (pending : ℕ → Pending) (parts : List Part) → IsStore store contents pending first
      → parts_put store.shape.partitions 0 pending ≡ Some parts → IsStore now (with_checkpoint mark parts contents) nothing_pending later
