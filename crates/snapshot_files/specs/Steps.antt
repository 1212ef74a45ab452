-- What the steps of opening a folder find.
use Rattle.std.specs.Prelude.{◌≡◌, ◌≢◌, ◌⊎◌, ℕ, length, IsFalse, List, [], ◌∷◌, Option, Some, None, Ok, Err, if◌then◌else◌}
use Rattle.sf_disk.specs.Images.{FileState}
use Rattle.sf_disk.specs.Moments.{Moment, WhereTold}
use Rattle.block_log.specs.Blocks.{Body, IsNoLog}
use Rattle.block_log.specs.Logs.{IsOpen, HasBlockAt}
use Rattle.block_log.specs.declared.log.BlockLog.{BlockLog}
use Rattle.store_faults.specs.declared.fault.StoreFault.{StoreFault}
use Rattle.store_faults.specs.declared.fault.StoreFault.TheVariants.{DiskFault, NotAStore, StoreOfOther, OutOfMemory}
use Rattle.store_faults.specs.Faults.{RefusesBy}
use Rattle.folder_messages.specs.declared.manifest.Complete.{Complete}
use Rattle.folder_form.specs.declared.shape.Shape.{Shape}
use Rattle.folder_form.specs.Folders.{Contents, Files, Part, Reading, form_of, is_next, job_in, or_break, parts_from, step_in}
use Rattle.snapshot_files.specs.declared.store.Store.{Store}
use Rattle.snapshot_files.specs.Logs.{AreFiles, AreUsable}
use Rattle.snapshot_files.specs.Stores.{most_partitions, AreLogs, AreOpen, AreKept, IsStore, held_by, nothing_pending}
use Rattle.snapshot_files.specs.Opening.{IsStoreFile, OpensKept, seen}

-- ---- logs

-- the logs of a folder's files can be used
pub record AreReady (manifest : BlockLog) (pieces : List BlockLog) : Type 0 where
  pub file : manifest.file ≡ 0
  pub usable : IsFalse manifest.spent
  pub len : length pieces ≡ most_partitions
  pub files : AreFiles 2 pieces
  pub all_usable : AreUsable pieces

-- these logs are of these blocks
pub record AreHeld (manifest : BlockLog) (pieces : List BlockLog) (files : Files) (now : Moment) : Type 0 where
  pub first : IsOpen manifest (files 0) (now 0)
  pub others : AreOpen files now 2 pieces

-- the logs of a folder were opened
pub record LogsOpened (manifest : BlockLog) (pieces : List BlockLog) (first last : Moment) : Type 0 where
  pub opens : OpensKept first last
  pub files : Files
  pub stood : AreLogs (seen first) files
  pub held : AreHeld manifest pieces files last

-- a file is no log, by that place
abbrev pub RefusesLog : List Moment → StoreFault → Type 0
RefusesLog moments = RefusesBy (λ file place. WhereTold moments (λ now. IsStoreFile file × IsNoLog (now file).seen place))

-- ---- the job

abbrev pub BeginsWith : List Body → List ℕ → Type 0
BeginsWith bodies text = (job : Body) × (rest : List Body) × (bodies ≡ job ∷ rest) × (job_in job ≡ Some text)

-- the text of the job with which the blocks of a manifest begin; None where there are none
abbrev pub IsText : Option (List ℕ) → List Body → Type 0
IsText None bodies = bodies ≡ []
IsText (Some text) bodies = BeginsWith bodies text

abbrev pub HasText : BlockLog → List Moment → Option (List ℕ) → Type 0
HasText manifest moments found = WhereTold moments (λ now. (bodies : List Body) → IsOpen manifest bodies (now 0) → IsText found bodies)

-- the first block of a manifest is no job
abbrev pub IsNoJob : List Body → Type 0
IsNoJob bodies = (job : Body) × (rest : List Body) × (bodies ≡ job ∷ rest) × (job_in job ≡ None)

abbrev pub RefusesJob : BlockLog → List Moment → StoreFault → Type 0
RefusesJob manifest moments = RefusesBy (λ file place. WhereTold moments (λ now. (bodies : List Body) → IsOpen manifest bodies (now 0) → (file ≡ 0) × (place ≡ 0) × IsNoJob bodies))

-- the job of that text was written into a manifest without blocks
abbrev pub JobWritten : BlockLog → BlockLog → List ℕ → FileState → FileState → Type 0
JobWritten log now text old new = IsOpen log [] old → (job : Body) × (job_in job ≡ Some text) × IsOpen now (job ∷ []) new

-- a manifest begins with the job of that text: so it did, or it had no block
pub record HasBegun (now : BlockLog) (text : List ℕ) (bodies : List Body) (state : FileState) : Type 0 where
  pub begun : List Body
  pub is_open : IsOpen now begun state
  pub begins : BeginsWith begun text
  pub either : (begun ≡ bodies) ⊎ ((bodies ≡ []) × (job : Body) × (begun ≡ job ∷ []) × (job_in job ≡ Some text))

abbrev pub Begun : BlockLog → BlockLog → List ℕ → FileState → FileState → Type 0
Begun log now text old new = (bodies : List Body) → IsOpen log bodies old → HasBegun now text bodies new

-- it begins with no job, or with that of another text
abbrev pub RefusesText : BlockLog → List ℕ → List Moment → StoreFault → Type 0
RefusesText manifest text moments DiskFault = Unit {0}
RefusesText manifest text moments (NotAStore file place) = WhereTold moments (λ now. (bodies : List Body) → IsOpen manifest bodies (now 0) → (file ≡ 0) × (place ≡ 0) × IsNoJob bodies)
RefusesText manifest text moments (StoreOfOther kept given) = (given ≡ text) × (kept ≢ text) × WhereTold moments (λ now. (bodies : List Body) → IsOpen manifest bodies (now 0) → BeginsWith bodies kept)
RefusesText manifest text moments OutOfMemory = Unit {0}

-- ---- the manifest

-- the logs of a folder of that job
pub record IsFolder (manifest : BlockLog) (pieces : List BlockLog) (text : List ℕ) (files : Files) (now : Moment) : Type 0 where
  pub held : AreHeld manifest pieces files now
  pub begins : BeginsWith (files 0) text

-- what the folder stands for, and the store of it
abbrev pub IsRead : BlockLog → List BlockLog → List ℕ → List Moment → Store → Type 0
IsRead manifest pieces text moments store =
    WhereTold moments (λ now. (files : Files) → IsFolder manifest pieces text files now
    → (contents : Contents) × (form_of files ≡ Ok (Some (held_by store contents))) × IsStore store contents nothing_pending now)

-- the block at that place of that file is the first that breaks the form
abbrev pub RefusesFolder : BlockLog → List BlockLog → List ℕ → List Moment → StoreFault → Type 0
RefusesFolder manifest pieces text moments =
    RefusesBy (λ file place. WhereTold moments (λ now. (files : Files) → IsFolder manifest pieces text files now → form_of files ≡ Err (record { file = file; place = place })))

-- what a store knows of the contents that were read
pub record Knows (store : Store) (contents : Contents) (files : Files) : Type 0 where
  pub kept : AreKept store.shape files store.completes contents.checkpoints
  pub leg_is : store.stored_leg ≡ contents.leg

-- where the checkpoints stand and the leg may be others
pub record IsReading (store now : Store) : Type 0 where
  pub manifest : now.manifest ≡ store.manifest
  pub logs : now.logs ≡ store.logs
  pub slots : now.slots ≡ store.slots
  pub text : now.text ≡ store.text
  pub shape : now.shape ≡ store.shape
  pub spent : now.spent ≡ store.spent

-- the block at that place of the manifest was read
abbrev pub Advances : Store → Store → ℕ → List Moment → Type 0
Advances store now place moments =
    WhereTold moments (λ moment. (files : Files) (contents : Contents) (body : Body) → AreHeld store.manifest store.logs.items files moment → Knows store contents files
    → HasBlockAt (files 0) place body → (next : Contents) × (step_in store.shape files place contents body ≡ Ok next) × Knows now next files)

abbrev pub RefusesBlock : Store → ℕ → List Moment → StoreFault → Type 0
RefusesBlock store place moments =
    RefusesBy (λ file at. WhereTold moments (λ moment. (files : Files) (contents : Contents) (body : Body) → AreHeld store.manifest store.logs.items files moment
    → Knows store contents files → HasBlockAt (files 0) place body → step_in store.shape files place contents body ≡ Err (record { file = file; place = at })))

-- ---- parts

-- the parts of a checkpoint that may come next
abbrev pub checked : Shape → Files → ℕ → ℕ → Complete → Reading (List Part)
checked shape files place count complete =
    if is_next shape count complete then parts_from shape.partitions 0 files complete.moment complete.places else or_break 0 place None

-- what a reading of the parts' files gives
abbrev pub HasParts : Store → List Moment → (Files → Reading (List Part)) → Type 0
HasParts store moments read = WhereTold moments (λ now. (files : Files) → AreOpen files now 2 store.logs.items → (parts : List Part) × (read files ≡ Ok parts))

abbrev pub RefusesParts : Store → List Moment → (Files → Reading (List Part)) → StoreFault → Type 0
RefusesParts store moments read =
    RefusesBy (λ file place. WhereTold moments (λ now. (files : Files) → AreOpen files now 2 store.logs.items → read files ≡ Err (record { file = file; place = place })))
