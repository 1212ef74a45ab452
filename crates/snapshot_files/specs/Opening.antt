-- What opening makes of a folder, and when it is refused.
use Rattle.std.specs.Prelude.{◌≡◌, ◌≢◌, ◌⊎◌, ℕ, ◌<◌, List, [], ◌∷◌, Option, Some, None, Err}
use Rattle.sf_disk.specs.Images.{Follows}
use Rattle.sf_disk.specs.Moments.{Moment, Folder, WhereTold}
use Rattle.block_log.specs.Blocks.{Body, StandsFor, IsNoLog, Keeps}
use Rattle.folder_form.specs.Folders.{Contents, Files, Held, form_of, file_of, job_in, no_contents}
use Rattle.store_faults.specs.declared.fault.StoreFault.{StoreFault}
use Rattle.store_faults.specs.declared.fault.StoreFault.TheVariants.{DiskFault, NotAStore, StoreOfOther, OutOfMemory}
use Rattle.snapshot_files.specs.declared.store.Store.{Store}
use Rattle.snapshot_files.specs.Stores.{most_partitions, AreLogs, HasForm, IsStore, nothing_pending, held_by}

-- ---- what changes

abbrev pub IsOther : ℕ → Type 0
IsOther file = (file ≢ 0) × ((partition : ℕ) → partition < most_partitions → file ≢ file_of partition)

-- The blocks of the manifest stand. Where there were none, that of the job may stand now.
abbrev pub Begins : List ℕ → List ℕ → List ℕ → Type 0
Begins text old new =
    (bodies : List Body) → StandsFor old bodies → StandsFor new bodies ⊎ ((bodies ≡ []) × (job : Body) × (job_in job ≡ Some text) × StandsFor new (job ∷ []))

-- other files are as they were, and what the store's files stood for they still stand for
pub record Opens (text : List ℕ) (first later : Moment) : Type 0 where
  pub others : (file : ℕ) → IsOther file → later file ≡ first file
  pub manifest : Follows (Begins text) (first 0) (later 0)
  pub logs : (partition : ℕ) → partition < most_partitions → Follows Keeps (first (file_of partition)) (later (file_of partition))

-- the same, where no job is written
pub record OpensKept (first later : Moment) : Type 0 where
  pub others : (file : ℕ) → IsOther file → later file ≡ first file
  pub manifest : Follows Keeps (first 0) (later 0)
  pub logs : (partition : ℕ) → partition < most_partitions → Follows Keeps (first (file_of partition)) (later (file_of partition))

-- what reads give now
abbrev pub seen : Moment → Folder
seen now file = (now file).seen

-- a folder without a job stands for no checkpoints of the given one
abbrev pub contents_in : Option Held → Contents
contents_in None = no_contents
contents_in (Some held) = held.contents

abbrev pub IsJob : List ℕ → Option Held → Type 0
IsJob text None = Unit {0}
IsJob text (Some held) = held.text ≡ text

pub record IsOpened (store : Store) (text : List ℕ) (first last : Moment) : Type 0 where
  pub opens : Opens text first last
  pub form : Option Held
  pub stood : HasForm (seen first) form
  pub job : IsJob text form
  pub text_is : store.text ≡ text
  pub is_store : IsStore store (contents_in form) nothing_pending last

pub record IsOpenedKept (store : Store) (first last : Moment) : Type 0 where
  pub opens : OpensKept first last
  pub contents : Contents
  pub stood : HasForm (seen first) (Some (held_by store contents))
  pub is_store : IsStore store contents nothing_pending last

-- the manifest has no block
pub record IsNew (first last : Moment) : Type 0 where
  pub opens : OpensKept first last
  pub none : StandsFor (first 0).seen []

-- ---- refusals

-- a file is no log by that place, or the block there is the first that breaks the form
abbrev pub IsStoreFile : ℕ → Type 0
IsStoreFile file = (file ≡ 0) ⊎ ((partition : ℕ) × (partition < most_partitions) × (file ≡ file_of partition))

-- the manifest begins with the job of that text
abbrev pub HasJob : Folder → List ℕ → Type 0
HasJob folder text = (job : Body) × (rest : List Body) × StandsFor (folder 0) (job ∷ rest) × (job_in job ≡ Some text)

abbrev pub BreaksAt : Folder → ℕ → ℕ → Type 0
BreaksAt folder file place =
    (IsStoreFile file × IsNoLog (folder file) place)
    ⊎ ((files : Files) × AreLogs folder files × (form_of files ≡ Err (record { file = file; place = place })))

-- the same, of a folder that is of no other job
abbrev pub BreaksFor : List ℕ → Folder → ℕ → ℕ → Type 0
BreaksFor text folder file place =
    (IsStoreFile file × IsNoLog (folder file) place)
    ⊎ ((files : Files) × AreLogs folder files × (form_of files ≡ Err (record { file = file; place = place })) × ((kept : List ℕ) → HasJob folder kept → kept ≡ text))

abbrev pub RefusesStore : List ℕ → List Moment → StoreFault → Type 0
RefusesStore text moments DiskFault = Unit {0}
RefusesStore text moments (NotAStore file place) = WhereTold moments (λ now. BreaksFor text (seen now) file place)
RefusesStore text moments (StoreOfOther kept given) = (given ≡ text) × (kept ≢ text) × WhereTold moments (λ now. HasJob (seen now) kept)
RefusesStore text moments OutOfMemory = Unit {0}

abbrev pub RefusesKept : List Moment → StoreFault → Type 0
RefusesKept moments DiskFault = Unit {0}
RefusesKept moments (NotAStore file place) = WhereTold moments (λ now. BreaksAt (seen now) file place)
RefusesKept moments (StoreOfOther kept given) = ⊥
RefusesKept moments OutOfMemory = Unit {0}
