-- What a command that only reads leaves of a folder.
use Rattle.std.specs.Prelude.{◌≡◌, ℕ, List, Option}
use Rattle.sf_disk.specs.Moments.{Moment, Folder, IsImage}
use Rattle.folder_form.specs.Folders.{Held}
use Rattle.snapshot_files.specs.Stores.{HasForm}
use Rattle.egress_commit.specs.Epochs.{Epoch, HasEpochs}

-- what a folder stood for another one stands for: the job with its checkpoints, and the committed epochs
pub record StandsAs (before folder : Folder) : Type 0 where
  pub form : (form : Option Held) → HasForm before form → HasForm folder form
  pub epochs : (epochs : List Epoch) → HasEpochs (before 1) epochs → HasEpochs (folder 1) epochs

-- each outcome of a crash stands for what an outcome at first stood for
abbrev pub Stays : Moment → Moment → Type 0
Stays first later = (folder : Folder) → IsImage later folder → (before : Folder) × IsImage first before × StandsAs before folder

-- what a disk tells, and how often it failed
pub record DiskState : Type 0 where
  pub moments : List Moment
  pub faults : ℕ

abbrev pub disk_state : List Moment → ℕ → DiskState
disk_state moments faults = record { moments = moments; faults = faults }
