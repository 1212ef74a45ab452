-- What `statefun show` writes, and when.
use Rattle.std.specs.Prelude.{◌≡◌, ◌≤◌, ◌⊎◌, ℕ, List, [], ◌++◌, codes, Some}
use Rattle.sf_outside.specs.Told.{Rose}
use Rattle.sf_disk.specs.Moments.{Moment, Folder, WhereTold}
use Rattle.block_log.specs.Blocks.{StandsFor}
use Rattle.store_faults.specs.declared.fault.StoreFault.{StoreFault}
use Rattle.store_faults.specs.Faults.{RefusesBy}
use Rattle.folder_form.specs.Folders.{Held}
use Rattle.snapshot_files.specs.Stores.{HasForm}
use Rattle.snapshot_files.specs.Opening.{BreaksAt, seen}
use Rattle.egress_commit.specs.Epochs.{Epoch, HasEpochs, IsNoOutlet}
use Rattle.command_io.specs.Telling.{disk_fault_line, not_a_store_line, usage_line}
use Rattle.command_io.specs.Folders.{DiskState}
use Rattle.command_io.specs.Runs.{Command}
use Rattle.folder_commands.specs.declared.show.ShowEnd.{ShowEnd}
use Rattle.folder_commands.specs.declared.show.ShowEnd.TheVariants.{Shown, Help, Usage, DiskFault, NotAStore, OutOfMemory}
use Rattle.folder_commands.specs.ShowWords.{show_app}
use Rattle.folder_commands.specs.Shown.{show_text}

-- ---- what is shown of a folder

-- a folder of checkpoints, or one whose manifest has no block yet
abbrev pub IsKept : Folder → Type 0
IsKept folder = ((held : Held) × HasForm folder (Some held)) ⊎ StandsFor (folder 0) []

-- such a folder, whose egress file has these epochs
abbrev pub HasCommitted : Folder → List Epoch → Type 0
HasCommitted folder epochs = IsKept folder × HasEpochs (folder 1) epochs

-- the lines of the epochs that were committed
abbrev pub IsText : List Moment → List ℕ → Type 0
IsText moments text = (epochs : List Epoch) × (text ≡ show_text epochs) × WhereTold moments (λ now. HasCommitted (seen now) epochs)

-- a folder has not its form, by that place of that file
abbrev pub IsNoFolder : Folder → ℕ → ℕ → Type 0
IsNoFolder folder file place = BreaksAt folder file place ⊎ ((file ≡ 1) × IsNoOutlet (folder 1) place)

abbrev pub RefusesShow : List Moment → StoreFault → Type 0
RefusesShow moments = RefusesBy (λ file place. WhereTold moments (λ now. IsNoFolder (seen now) file place))

-- ---- the command

-- what the work comes to: the disk failed exactly where the end is its fault
abbrev pub Works : DiskState → DiskState → ShowEnd → Type 0
Works before after (Shown text) = (after.faults ≡ before.faults) × IsText before.moments text
Works before after Help = ⊥
Works before after Usage = ⊥
Works before after DiskFault = (before.faults ≤ after.faults) × Rose before.faults after.faults
Works before after (NotAStore file place) = (after.faults ≡ before.faults) × WhereTold before.moments (λ now. IsNoFolder (seen now) file place)
Works before after OutOfMemory = after.faults ≡ before.faults

-- what is written where help is asked for
unfoldable pub show_help : List ℕ
show_help =
    codes "Writes what was committed to egress, a line for each record\n\nUsage: statefun show <FOLDER>\n\nArguments:\n"
    ++ (codes "  <FOLDER>  The folder of the checkpoints\n\n"
    ++ codes "Options:\n  -h, --help  Print help\n")

abbrev pub end_text : ShowEnd → List ℕ
end_text (Shown text) = text
end_text Help = show_help
end_text Usage = usage_line
end_text DiskFault = disk_fault_line
end_text (NotAStore file place) = not_a_store_line file place
end_text OutOfMemory = []

abbrev pub end_status : ShowEnd → ℕ
end_status (Shown text) = 0
end_status Help = 0
end_status Usage = 2
end_status DiskFault = 10
end_status (NotAStore file place) = 13
end_status OutOfMemory = 15

abbrev pub show_command : Command DiskState ShowEnd
show_command = record {
  app = show_app;
  works = Works;
  text = end_text;
  status = end_status;
  help = Help;
  usage = Usage;
  memory = OutOfMemory;
}
