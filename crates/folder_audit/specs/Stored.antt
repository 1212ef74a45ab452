-- What a folder has stored of a job: the record of its checkpoints, and the newest of them.
use Rattle.std.specs.Prelude.{◌≡◌, ℕ, List, [], ◌∷◌, Bool, true, false, ◌==◌, bytes_eq, if◌then◌else◌, Some}
use Rattle.sf_disk.specs.Moments.{Moment, Folder, WhereTold}
use Rattle.block_log.specs.Blocks.{StandsFor}
use Rattle.store_faults.specs.declared.fault.StoreFault.{StoreFault}
use Rattle.store_faults.specs.Faults.{RefusesBy}
use Rattle.address_routing.specs.declared.module.Module.{Module}
use Rattle.address_routing.specs.JobText.{job_text}
use Rattle.run_record.specs.declared.entry.Entry.{Entry}
use Rattle.folder_form.specs.declared.loaded.Loaded.{Loaded}
use Rattle.folder_form.specs.Folders.{Contents, Held, loaded_of, record_of}
use Rattle.snapshot_files.specs.declared.store.Store.{Store}
use Rattle.snapshot_files.specs.Stores.{HasForm, IsStore, Pending}
use Rattle.snapshot_files.specs.Opening.{BreaksAt, seen}
use Rattle.snapshot_files.specs.Reading.{IsUntold}
use Rattle.checkpoint_state.specs.Matching.{HaveCells}
use Rattle.checkpoint_state.specs.Stored.{states_in}
use Rattle.folder_audit.specs.declared.record.Found.{Found}
use Rattle.folder_audit.specs.declared.record.Found.TheVariants.{Nothing, Other, Record}

-- what stands behind the first line of a text
abbrev pub behind_line : List ℕ → List ℕ
behind_line [] = []
behind_line (byte ∷ bytes) = if byte == 10 then bytes else behind_line bytes

-- a folder's text is that of a job behind its first line, which tells the number of partitions
abbrev pub is_of : List ℕ → List ℕ → Bool
is_of kept job = bytes_eq (behind_line kept) job

-- a folder has no job yet
abbrev pub HasNoJob : Folder → Type 0
HasNoJob folder = StandsFor (folder 0) []

-- it has that of another module
abbrev pub HasOtherJob : Module → Folder → Type 0
HasOtherJob m folder = (held : Held) × HasForm folder (Some held) × (is_of held.text (job_text m) ≡ false)

-- it has that of this module, with these checkpoints
abbrev pub HasCheckpoints : Module → Folder → Contents → Type 0
HasCheckpoints m folder contents = (held : Held) × HasForm folder (Some held) × (is_of held.text (job_text m) ≡ true) × (held.contents ≡ contents)

-- the record of all its checkpoints, and the newest of them
abbrev pub HasRecord : Module → List Entry → Loaded → Folder → Type 0
HasRecord m entries loaded folder = (contents : Contents) × HasCheckpoints m folder contents × (entries ≡ record_of contents) × (loaded ≡ loaded_of contents)

-- what was found in a folder, where the disk tells it
abbrev pub IsFound : Module → List Moment → Found → Type 0
IsFound m moments Nothing = WhereTold moments (λ now. HasNoJob (seen now))
IsFound m moments Other = WhereTold moments (λ now. HasOtherJob m (seen now))
IsFound m moments (Record entries loaded) = HaveCells (states_in loaded.pieces) × WhereTold moments (λ now. HasRecord m entries loaded (seen now))

-- its bytes break its form there
abbrev pub RefusesFound : List Moment → StoreFault → Type 0
RefusesFound moments = RefusesBy (λ file place. WhereTold moments (λ now. BreaksAt (seen now) file place))

-- ---- the same, of a store that is open

abbrev pub IsFoundIn : Module → Store → List Moment → Found → Type 0
IsFoundIn m store moments Nothing = ⊥
IsFoundIn m store moments Other = is_of store.text (job_text m) ≡ false
IsFoundIn m store moments (Record entries loaded) =
    (is_of store.text (job_text m) ≡ true) × HaveCells (states_in loaded.pieces)
    × WhereTold moments (λ now. (contents : Contents) (pending : ℕ → Pending) → IsStore store contents pending now → (entries ≡ record_of contents) × (loaded ≡ loaded_of contents))

abbrev pub RefusesFoundIn : List Moment → StoreFault → Type 0
RefusesFoundIn moments = IsUntold moments
