-- What a folder of checkpoints and committed egress stands for, and what calls on it leave.
use Rattle.std.specs.Prelude.{◌≡◌, ◌≢◌, ◌≤◌, ◌⊎◌, ℕ, ◌+◌, List, [], ◌∷◌, ◌++◌, length, map, slice_get, true, Option, Some, None}
use Rattle.std.specs.Option.{option_map, option_to_list}
use Rattle.typed_values.specs.declared.letter.Letter.{Letter}
use Rattle.sf_disk.specs.Moments.{Moment, Folder, IsImage, WhereTold}
use Rattle.piece_messages.specs.declared.piece.Piece.{Piece}
use Rattle.store_faults.specs.declared.fault.StoreFault.{StoreFault}
use Rattle.store_faults.specs.declared.fault.StoreFault.TheVariants.{DiskFault, NotAStore, StoreOfOther, OutOfMemory}
use Rattle.store_faults.specs.Faults.{RefusesBy}
use Rattle.folder_form.specs.declared.mark.Mark.{Mark}
use Rattle.folder_form.specs.declared.pieces.Home.{Home}
use Rattle.folder_form.specs.Pieces.{owns_piece, owns_letters, latest_in}
use Rattle.folder_form.specs.Folders.{Part, Contents, Held, with_leg, with_checkpoint, egress_in}
use Rattle.snapshot_files.specs.Stores.{HasForm, IsStore, nothing_pending}
use Rattle.snapshot_files.specs.Opening.{IsJob, contents_in, RefusesStore}
use Rattle.egress_commit.specs.Epochs.{Epoch, HasEpochs, IsNoOutlet}
use Rattle.egress_commit.specs.Outlets.{IsOutlet}
use Rattle.checkpoint_storage.specs.declared.storage.CheckpointStorage.{CheckpointStorage}

-- A folder of the job of that text, or of none yet, stands for these checkpoints and these committed epochs.
pub record Stands (text : List ℕ) (folder : Folder) (contents : Contents) (epochs : List Epoch) : Type 0 where
  pub form : Option Held
  pub has_form : HasForm folder form
  pub job : IsJob text form
  pub contents_are : contents ≡ contents_in form
  pub has_epochs : HasEpochs (folder 1) epochs

-- the storage stands for them: so says each outcome of a crash
pub record IsStorage (storage : CheckpointStorage) (contents : Contents) (epochs : List Epoch) (now : Moment) : Type 0 where
  pub store : IsStore storage.store contents nothing_pending now
  pub outlet : IsOutlet storage.outlet epochs (now 1)

abbrev pub IsKnown : CheckpointStorage → List Moment → Type 0
IsKnown storage moments = WhereTold moments (λ now. (contents : Contents) × (epochs : List Epoch) × IsStorage storage contents epochs now)

-- ---- what a crash leaves

-- each outcome of a crash stands for what an outcome at first stood for
abbrev pub Stays : List ℕ → Moment → Moment → Type 0
Stays text first later =
    (folder : Folder) → IsImage later folder
    → (before : Folder) × IsImage first before
    × ((contents : Contents) (epochs : List Epoch) → Stands text before contents epochs → Stands text folder contents epochs)

-- one state of a folder by another
abbrev pub Change : Type 1
Change = Contents → List Epoch → Contents → List Epoch → Type 0

-- each outcome of a crash stands for one of these, by what the storage stood for at first
abbrev pub Leaves : CheckpointStorage → Change → Moment → Moment → Type 0
Leaves storage Among first later =
    (contents : Contents) (epochs : List Epoch) → IsStorage storage contents epochs first
    → (folder : Folder) → IsImage later folder
    → (now : Contents) × (committed : List Epoch) × Among contents epochs now committed × Stands storage.store.text folder now committed

-- the storage stands for this now
abbrev pub Turns : CheckpointStorage → CheckpointStorage → (Contents → List Epoch → Contents) → (Contents → List Epoch → List Epoch) → Moment → Moment → Type 0
Turns storage now next committed first last =
    (contents : Contents) (epochs : List Epoch) → IsStorage storage contents epochs first
    → IsStorage now (next contents epochs) (committed contents epochs) last

-- ---- committing

-- the egress of the first checkpoint whose egress is not committed, if there is one
abbrev pub uncommitted : Contents → List Epoch → Option Epoch
uncommitted contents epochs = option_map egress_in (slice_get contents.checkpoints (length epochs))

abbrev pub with_next : Contents → List Epoch → List Epoch
with_next contents epochs = epochs ++ option_to_list (uncommitted contents epochs)

abbrev pub MayCommit : Change
MayCommit contents epochs now committed = (now ≡ contents) × ((committed ≡ epochs) ⊎ (committed ≡ with_next contents epochs))

-- the egress file is further off than one epoch
abbrev pub IsFar : ℕ → ℕ → Type 0
IsFar newest epochs = (epochs ≢ newest) × (epochs + 1 ≢ newest)

-- ---- a run, and a checkpoint

abbrev pub MayBegin : ℕ → Change
MayBegin leg contents epochs now committed = ((now ≡ contents) ⊎ (now ≡ with_leg leg contents)) × (committed ≡ epochs)

abbrev pub the_part : Piece → List Letter → List Part
the_part piece letters = record { piece = piece; letters = letters } ∷ []

abbrev pub Completes : Mark → List Part → Change
Completes mark parts contents epochs now committed = ((now ≡ contents) ⊎ (now ≡ with_checkpoint mark parts contents)) × (committed ≡ epochs)

-- the checkpoint, and then its egress
abbrev pub Checkpoints : Mark → List Part → Change
Checkpoints mark parts contents epochs now committed =
    Completes mark parts contents epochs now committed ⊎ ((now ≡ with_checkpoint mark parts contents) × (committed ≡ with_next now epochs))

-- what may stand in the only partition's file
abbrev pub only : Home
only = record { partitions = 1; partition = 0 }

pub record IsPart (mark : Mark) (piece : Piece) (letters : List Letter) : Type 0 where
  pub owned : owns_piece only piece ≡ true
  pub letters_owned : owns_letters only letters ≡ true
  pub partition : piece.partition ≡ 0
  pub latest : latest_in piece ≤ mark.moment

-- ---- refusals

abbrev pub RefusesStorage : List ℕ → List Moment → StoreFault → Type 0
RefusesStorage text moments DiskFault = Unit {0}
RefusesStorage text moments (NotAStore file place) =
    RefusesStore text moments (NotAStore file place) ⊎ ((file ≡ 1) × WhereTold moments (λ now. IsNoOutlet (now 1).seen place))
RefusesStorage text moments (StoreOfOther kept given) = RefusesStore text moments (StoreOfOther kept given)
RefusesStorage text moments OutOfMemory = Unit {0}
