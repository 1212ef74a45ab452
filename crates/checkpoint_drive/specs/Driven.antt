-- What a run over a folder does: its legs, where they end, and what stands in the folder at each moment.
use Rattle.std.specs.Prelude.{◌≡◌, ◌<◌, ◌⊎◌, ℕ, ◌+◌, List, [], ◌∷◌, ◌++◌, length, true, false}
use Rattle.sf_outside.specs.Told.{Rose}
use Rattle.sf_disk.specs.Moments.{Moment, Folder, IsImage, WhereTold, Since, Becomes}
use Rattle.address_routing.specs.declared.module.Module.{Module}
use Rattle.run_record.specs.declared.entry.Entry.{Entry}
use Rattle.folder_form.specs.declared.loaded.Loaded.{Loaded}
use Rattle.folder_form.specs.Folders.{Contents, loaded_of}
use Rattle.snapshot_files.specs.Opening.{seen}
use Rattle.snapshot_files.specs.Reading.{FitsShape}
use Rattle.egress_commit.specs.Epochs.{Epoch}
use Rattle.store_faults.specs.declared.fault.StoreFault.{StoreFault}
use Rattle.store_faults.specs.declared.fault.StoreFault.TheVariants as faults
use Rattle.store_faults.specs.Faults.{IsNoRefusal}
use Rattle.checkpoint_storage.specs.Folders.{Leaves, Stands, Turns, with_next}
use Rattle.statefun_driver.specs.declared.end.End.{End}
use Rattle.statefun_driver.specs.declared.end.End.TheVariants as turns
use Rattle.statefun_driver.specs.Seen.{Event, Seen}
use Rattle.statefun_driver.specs.Turns.{Plan, Control, Origin}
use Rattle.statefun_driver.specs.Traces.{Trace, Leads, Ends}
use Rattle.statefun_driver.specs.Origins.{IsSoundOrigin}
use Rattle.statefun_driver.specs.Turns.{first_control}
use Rattle.statefun_driver.specs.Work.{plan_of}
use Rattle.checkpoint_drive.specs.declared.end.DriveEnd.{DriveEnd}
use Rattle.checkpoint_drive.specs.declared.end.DriveEnd.TheVariants.{Done, TurnsSpent, Refused, Stopped}
use Rattle.checkpoint_drive.specs.declared.options.Options.{Options}
use Rattle.checkpoint_drive.specs.declared.run.Run.{Run}
use Rattle.checkpoint_drive.specs.Drives.{Rest, Leg, AreLegs, IsLeg, behind, first_rest, is_asked, is_over}
use Rattle.checkpoint_drive.specs.Laws.{after_all}
use Rattle.checkpoint_drive.specs.Images.{MayLeave, Reaches, begun_run, egress_by, most_legs}
use Rattle.checkpoint_drive.specs.Begins.{RefusesOpening, driven_plan, reaches_all, rest_of, shape_of, stored_origin}

-- ---- ends

-- behind none of these legs the run is over
abbrev pub NoneIsLast : Plan → Options → Rest → List Leg → Type 0
NoneIsLast plan options rest [] = Unit {0}
NoneIsLast plan options rest (leg ∷ legs) = let next = behind plan options rest leg in (is_over options leg.control next ≡ false) × NoneIsLast plan options next legs

-- it is over behind the last of them, and behind no other
pub record IsOverBehind (plan : Plan) (options : Options) (rest : Rest) (legs : List Leg) (last : Rest) : Type 0 where
  pub before : List Leg
  pub leg : Leg
  pub are : legs ≡ before ++ leg ∷ []
  pub goes_on : NoneIsLast plan options rest before
  pub over : is_over options leg.control last ≡ true

-- A turn was made whose checkpoint was not saved, or not with all its egress: it may stand in the folder where there is one.
abbrev pub IsUnsaved : Plan → Options → Rest → Seen → List Leg → Seen → Type 0
IsUnsaved plan options last before [] after =
    (events : List Event) × (control : Control) × Trace plan last.control before events control after × (control.turn ≡ last.control.turn + 1)
    × (is_asked options last ≡ true)
IsUnsaved plan options last before (leg ∷ []) after = IsLeg plan options last before leg after × (is_asked options last ≡ true)
IsUnsaved plan options last before (leg ∷ other ∷ legs) after = ⊥

-- driven turns never end by themselves
abbrev pub IsStop : End → Type 0
IsStop (turns.Done taken) = ⊥
IsStop (turns.TurnsSpent taken) = ⊥
IsStop end = Unit {0}

-- How legs end: behind the last one, or in the next.
abbrev pub EndBy : Plan → Options → ℕ → Rest → List Leg → Rest → Seen → List Leg → Seen → DriveEnd → Type 0
EndBy plan options most rest legs last between saving after (Done checkpoint) =
    (saving ≡ []) × (between ≡ after) × (checkpoint ≡ last.newest) × IsOverBehind plan options rest legs last
EndBy plan options most rest legs last between saving after (TurnsSpent checkpoint made) =
    (saving ≡ []) × (between ≡ after) × (checkpoint ≡ last.newest) × NoneIsLast plan options rest legs × (made ≡ last.legs) × (last.legs ≡ most)
EndBy plan options most rest legs last between saving after (Refused fault) =
    IsUnsaved plan options last between saving after × NoneIsLast plan options rest legs × (last.legs < most) × IsNoRefusal fault
EndBy plan options most rest legs last between saving after (Stopped end) =
    (saving ≡ []) × NoneIsLast plan options rest legs × (last.legs < most) × IsStop end × ((entries : List Entry) × Ends plan last.control between entries end after)

-- From a rest on, and from what was seen then, these legs were made, and the run ended so.
pub record ComesTo (plan : Plan) (options : Options) (most : ℕ) (rest : Rest) (before after : Seen) (end : DriveEnd) : Type 0 where
  pub legs : List Leg
  pub last : Rest
  pub between : Seen
  pub are : AreLegs plan options rest before legs last between
  -- the leg whose checkpoint may stand in the folder, if there is one
  pub saving : List Leg
  pub ends : EndBy plan options most rest legs last between saving after end

-- where all legs are whole
abbrev pub IfWhole : DriveEnd → Type 0 → Type 0
IfWhole (Done checkpoint) P = P
IfWhole (TurnsSpent checkpoint legs) P = P
IfWhole (Refused fault) P = Unit {0}
IfWhole (Stopped end) P = Unit {0}

-- DiskFault comes only where the disk's count rose; with any other end it stands
abbrev pub HasDiskCause : ℕ → ℕ → DriveEnd → Type 0
HasDiskCause before now (Refused faults.DiskFault) = Rose before now
HasDiskCause before now end = now ≡ before

-- ---- legs over an open folder

-- where turns are that began behind an origin
pub record IsUnderway (plan : Plan) (origin : Origin) (control : Control) (now : Seen) : Type 0 where
  pub from : Seen
  pub leads : Leads plan (first_control plan origin) from control now
  pub sound : IsSoundOrigin origin

pub record MakesLegs (run now : Run) (origin : Origin) (before after : Seen) (old new : List Moment) (end : DriveEnd) : Type 0 where
  pub comes : ComesTo (plan_of run.job) run.options run.most (rest_of origin run) before after end
  pub meanwhile : Since old new (Leaves run.storage (Reaches (comes.legs ++ comes.saving)))
  pub became : IfWhole end (Becomes old new (Turns run.storage now.storage
      (λ contents epochs. after_all contents comes.legs) (λ contents epochs. epochs ++ egress_by comes.legs)))

-- ---- a run

-- the folder stands for this then
abbrev pub StandsFor : List ℕ → Moment → Contents → List Epoch → Type 0
StandsFor text moment contents epochs = (folder : Folder) → IsImage moment folder → Stands text folder contents epochs

-- A run that was begun from the newest checkpoint of what a read gave.
pub record HasRun (m : Module) (options : Options) (text : List ℕ) (old new : List Moment) (before after : Seen) (end : DriveEnd) : Type 0 where
  -- the stored leg, the newest checkpoint's number, and that checkpoint
  pub stored : ℕ
  pub newest : ℕ
  pub loaded : Loaded
  pub fits : FitsShape (shape_of m) loaded
  pub reached : reaches_all m loaded ≡ true
  pub begins : WhereTold old (λ first. (contents : Contents) (epochs : List Epoch) → Stands text (seen first) contents epochs
      → (contents.leg ≡ stored) × (length contents.checkpoints ≡ newest) × (loaded_of contents ≡ loaded))
  pub comes : ComesTo (driven_plan m) options (most_legs options stored) (first_rest (driven_plan m) (stored_origin stored loaded) newest) before after end
  pub meanwhile : Since old new (MayLeave text options (comes.legs ++ comes.saving))
  pub became : IfWhole end (Becomes old new (λ first last. (contents : Contents) (epochs : List Epoch) → Stands text (seen first) contents epochs
      → StandsFor text last (after_all (begun_run options contents) comes.legs) (with_next contents epochs ++ egress_by comes.legs)))

-- A run whose folder was refused; the outside was not asked.
pub record WasRefused (m : Module) (options : Options) (text : List ℕ) (old new : List Moment) (before after : Seen) (fault : StoreFault) : Type 0 where
  pub meanwhile : Since old new (MayLeave text options [])
  pub outside : after ≡ before
  pub cause : RefusesOpening m text old fault

abbrev pub IsDriven : Module → Options → List ℕ → List Moment → List Moment → Seen → Seen → DriveEnd → Type 0
IsDriven m options text old new before after end =
    HasRun m options text old new before after end
    ⊎ ((fault : StoreFault) × (end ≡ Refused fault) × WasRefused m options text old new before after fault)
