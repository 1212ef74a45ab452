-- What a crash leaves of a folder while legs are made over it.
use Rattle.std.specs.Prelude.{◌≡◌, ◌⊎◌, ℕ, ◌+◌, ◌-◌, ◌^◌, min, List, [], ◌∷◌, ◌++◌, map}
use Rattle.sf_disk.specs.Moments.{Moment, Folder, IsImage}
use Rattle.folder_form.specs.Folders.{Contents, egress_in, with_leg}
use Rattle.snapshot_files.specs.Opening.{seen}
use Rattle.egress_commit.specs.Epochs.{Epoch}
use Rattle.checkpoint_storage.specs.Folders.{MayCommit, Stands, with_next}
use Rattle.statefun_driver.specs.Traces.{IsFront}
use Rattle.checkpoint_drive.specs.declared.options.Options.{Options}
use Rattle.checkpoint_drive.specs.Drives.{Leg, completed_by}
use Rattle.checkpoint_drive.specs.Laws.{after_all}

-- ---- legs

-- what the checkpoints of legs gave to egress, an epoch each
abbrev pub egress_by : List Leg → List Epoch
egress_by legs = map egress_in (completed_by legs)

-- The egress of these checkpoints is committed, but for that of the last one perhaps.
abbrev pub IsCommittedUpTo : List Epoch → List Epoch → List Epoch → Type 0
IsCommittedUpTo given epochs committed =
    (committed ≡ epochs ++ given) ⊎ ((before : List Epoch) × (last : Epoch) × (given ≡ before ++ last ∷ []) × (committed ≡ epochs ++ before))

-- Contents and committed egress with what some of the legs completed: all up to one of them, and none behind it.
pub record Reaches (legs : List Leg) (contents : Contents) (epochs : List Epoch) (now : Contents) (committed : List Epoch) : Type 0 where
  pub front : List Leg
  pub is_front : IsFront front legs
  pub contents_are : now ≡ after_all contents front
  pub committed_are : IsCommittedUpTo (egress_by front) epochs committed

-- ---- a run

-- the most legs of a run over a folder whose stored leg that is: no leg has a number past 2^64 - 1
abbrev pub most_legs : Options → ℕ → ℕ
most_legs options stored = min options.legs (2 ^ 64 - 1 - stored)

-- the run's last leg is stored
abbrev pub begun_run : Options → Contents → Contents
begun_run options contents = with_leg (contents.leg + most_legs options contents.leg) contents

-- The newest egress may be committed; then the run may be begun; then its legs complete checkpoints.
abbrev pub RunsOn : Options → List Leg → Contents → List Epoch → Contents → List Epoch → Type 0
RunsOn options legs contents epochs now committed =
    MayCommit contents epochs now committed ⊎ Reaches legs (begun_run options contents) (with_next contents epochs) now committed

-- the folder stands for what an outcome at first stood for
abbrev pub IsAsBefore : List ℕ → Moment → Folder → Type 0
IsAsBefore text first folder =
    (before : Folder) × IsImage first before × ((contents : Contents) (epochs : List Epoch) → Stands text before contents epochs → Stands text folder contents epochs)

-- the folder stands for what the run has made of what a read gave at first
pub record IsLedBy (text : List ℕ) (options : Options) (legs : List Leg) (first : Moment) (folder : Folder) : Type 0 where
  pub contents : Contents
  pub epochs : List Epoch
  pub now : Contents
  pub committed : List Epoch
  pub stood : Stands text (seen first) contents epochs
  pub runs : RunsOn options legs contents epochs now committed
  pub stands : Stands text folder now committed

-- so does each outcome of a crash
abbrev pub MayLeave : List ℕ → Options → List Leg → Moment → Moment → Type 0
MayLeave text options legs first later = (folder : Folder) → IsImage later folder → IsAsBefore text first folder ⊎ IsLedBy text options legs first folder
