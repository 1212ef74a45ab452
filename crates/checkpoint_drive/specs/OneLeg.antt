-- What one leg of a run over a folder does: a turn, and behind it the checkpoint that is asked for.
use Rattle.std.specs.Prelude.{◌≡◌, ◌⊎◌, ℕ, ◌+◌, List, [], ◌∷◌, ◌++◌, map, not, Bool, true, ◌&&◌, Option, Some, None, Result, Ok, Err}
use Rattle.std.specs.Option.{option_to_list, is_some}
use Rattle.sf_disk.specs.Moments.{Moment, Since, Becomes}
use Rattle.run_record.specs.declared.entry.Entry.{Entry}
use Rattle.piece_messages.specs.declared.piece.Piece.{Piece}
use Rattle.folder_form.specs.declared.mark.Mark.{Mark}
use Rattle.folder_form.specs.Folders.{Checkpoint, egress_in}
use Rattle.snapshot_files.specs.Stores.{newest}
use Rattle.egress_commit.specs.Epochs.{Epoch}
use Rattle.store_faults.specs.declared.fault.StoreFault.{StoreFault}
use Rattle.store_faults.specs.Faults.{IsNoRefusal}
use Rattle.checkpoint_storage.specs.Folders.{Change, Checkpoints, Leaves, Turns}
use Rattle.partition_core.specs.Work.{is_idle}
use Rattle.statefun_driver.specs.Seen.{Seen}
use Rattle.statefun_driver.specs.Turns.{Plan, Control, Origin, is_done}
use Rattle.statefun_driver.specs.Traces.{Leads, Ends}
use Rattle.statefun_driver.specs.Work.{here, plan_of}
use Rattle.checkpoint_drive.specs.declared.end.DriveEnd.{DriveEnd}
use Rattle.checkpoint_drive.specs.declared.end.DriveEnd.TheVariants.{Done, TurnsSpent, Refused, Stopped}
use Rattle.checkpoint_drive.specs.declared.run.Run.{Run}
use Rattle.checkpoint_drive.specs.Drives.{Leg, IsLeg, IsCheckpointOf, IsTaken, behind, behind_with, checkpoint_of, is_held, is_over}
use Rattle.checkpoint_drive.specs.Laws.{after}
use Rattle.checkpoint_drive.specs.Images.{Reaches, egress_by}
use Rattle.checkpoint_drive.specs.Begins.{rest_of}
use Rattle.checkpoint_drive.specs.Driven.{HasDiskCause, IsUnsaved}

-- ---- a turn

-- the turn was made, and whether it left nothing; or it ended the run
abbrev pub Turned : Plan → Control → Seen → Result Bool DriveEnd → Control → Seen → Type 0
Turned plan c o (Ok done) d p = Leads plan c o d p × (done ≡ is_done d)
Turned plan c o (Err (Stopped end)) d p = (entries : List Entry) × Ends plan c o entries end p
Turned plan c o (Err (Done checkpoint)) d p = ⊥
Turned plan c o (Err (TurnsSpent checkpoint legs)) d p = ⊥
Turned plan c o (Err (Refused fault)) d p = ⊥

-- the leg is counted
abbrev pub counted : Run → Run
counted run = record run {
  legs = run.legs + 1;
  unheld = run.options.drain && is_idle (here run.progress).work && not (is_held (newest run.storage.store) (here run.progress));
}

-- ---- a checkpoint

-- a checkpoint of what was done, without letters on the way, and what a crash left of the folder while it was saved
pub record IsSaving (run : Run) (old new : List Moment) (mark : Mark) (piece : Piece) : Type 0 where
  pub is : IsCheckpointOf (plan_of run.job) (newest run.storage.store) (here run.progress) mark piece
  pub meanwhile : Since old new (Leaves run.storage (Checkpoints mark (checkpoint_of mark piece).parts))

-- It stands, with its egress; or memory ran out before anything was written, or it may stand.
abbrev pub Saves : Run → Run → List Moment → List Moment → Result (Unit {0}) StoreFault → Type 0
Saves run now old new (Ok x) = (mark : Mark) × (piece : Piece) × IsSaving run old new mark piece
    × Becomes old new (Turns run.storage now.storage (λ contents epochs. after contents (Some (checkpoint_of mark piece))) (λ contents epochs. epochs ++ egress_in (checkpoint_of mark piece) ∷ []))
Saves run now old new (Err fault) = IsNoRefusal fault × ((new ≡ old) ⊎ ((mark : Mark) × (piece : Piece) × IsSaving run old new mark piece))

-- all but the folder and the progress
pub record AreBeside (run now : Run) : Type 0 where
  pub job : now.job ≡ run.job
  pub options : now.options ≡ run.options
  pub most : now.most ≡ run.most
  pub legs : now.legs ≡ run.legs
  pub unheld : now.unheld ≡ run.unheld

-- how it goes between legs, and what is run, does not change
pub record IsSame (run now : Run) : Type 0 where
  pub job : now.job ≡ run.job
  pub options : now.options ≡ run.options
  pub most : now.most ≡ run.most
  pub text : now.storage.store.text ≡ run.storage.store.text

-- ---- behind a turn

-- what a checkpoint gave to egress, as an epoch
abbrev pub epoch_of : Option Checkpoint → List Epoch
epoch_of taken = map egress_in (option_to_list taken)

-- the folder may have what was taken
abbrev pub Gains : Option Checkpoint → Change
Gains None contents epochs now committed = (now ≡ contents) × (committed ≡ epochs)
Gains (Some checkpoint) contents epochs now committed = Checkpoints checkpoint.mark checkpoint.parts contents epochs now committed

-- The leg is closed: with the checkpoint, where it was asked for.
pub record IsClosed (run now : Run) (origin : Origin) (asked : Bool) (old new : List Moment) : Type 0 where
  pub taken : Option Checkpoint
  pub as_asked : is_some taken ≡ asked
  pub is_taken : IsTaken (plan_of run.job) (rest_of origin run) (here run.progress) taken
  pub rest : (next : Origin) × (rest_of next now ≡ behind_with (plan_of run.job) run.options (rest_of origin run) (here run.progress) taken)
  pub meanwhile : Since old new (Leaves run.storage (Gains taken))
  pub became : Becomes old new (Turns run.storage now.storage (λ contents epochs. after contents taken) (λ contents epochs. epochs ++ epoch_of taken))

-- It is not: its checkpoint was asked for, and may stand where there is one.
pub record IsLeftOpen (run : Run) (origin : Origin) (asked : Bool) (old new : List Moment) (fault : StoreFault) : Type 0 where
  pub was_asked : asked ≡ true
  pub cause : IsNoRefusal fault
  pub taken : Option Checkpoint
  pub is_taken : IsTaken (plan_of run.job) (rest_of origin run) (here run.progress) taken
  pub meanwhile : Since old new (Leaves run.storage (Gains taken))

abbrev pub Closes : Run → Run → Origin → Bool → List Moment → List Moment → Result (Unit {0}) StoreFault → Type 0
Closes run now origin asked old new (Ok x) = IsClosed run now origin asked old new
Closes run now origin asked old new (Err fault) = IsLeftOpen run origin asked old new fault

-- ---- a leg

pub record HasLeg (run now : Run) (origin : Origin) (before after_leg : Seen) (old new : List Moment) (over : Bool) : Type 0 where
  pub leg : Leg
  pub is : IsLeg (plan_of run.job) run.options (rest_of origin run) before leg after_leg
  pub next : Origin
  pub rest : rest_of next now ≡ behind (plan_of run.job) run.options (rest_of origin run) leg
  pub over_is : over ≡ is_over run.options leg.control (behind (plan_of run.job) run.options (rest_of origin run) leg)
  pub meanwhile : Since old new (Leaves run.storage (Reaches (leg ∷ [])))
  pub became : Becomes old new (Turns run.storage now.storage (λ contents epochs. after contents leg.taken) (λ contents epochs. epochs ++ egress_by (leg ∷ [])))

-- the leg's checkpoint was not saved, or not with all its egress
pub record FailsLeg (run : Run) (origin : Origin) (before after_leg : Seen) (old new : List Moment) (fault : StoreFault) : Type 0 where
  pub saving : List Leg
  pub unsaved : IsUnsaved (plan_of run.job) run.options (rest_of origin run) before saving after_leg
  pub cause : IsNoRefusal fault
  pub meanwhile : Since old new (Leaves run.storage (Reaches saving))

abbrev pub MakesLeg : Run → Run → Origin → Seen → Seen → List Moment → List Moment → Result Bool DriveEnd → Type 0
MakesLeg run now origin before after_leg old new (Ok over) = HasLeg run now origin before after_leg old new over
MakesLeg run now origin before after_leg old new (Err (Refused fault)) = FailsLeg run origin before after_leg old new fault
MakesLeg run now origin before after_leg old new (Err (Stopped end)) =
    ((entries : List Entry) × Ends (plan_of run.job) (here run.progress) before entries end after_leg) × (new ≡ old)
MakesLeg run now origin before after_leg old new (Err (Done checkpoint)) = ⊥
MakesLeg run now origin before after_leg old new (Err (TurnsSpent checkpoint legs)) = ⊥

-- DiskFault comes only where the disk's count rose; with any other answer it stands
abbrev pub HasLegCause : ℕ → ℕ → Result Bool DriveEnd → Type 0
HasLegCause before now (Ok over) = now ≡ before
HasLegCause before now (Err end) = HasDiskCause before now end
