-- What an audit comes to.
use Rattle.std.specs.Prelude.{◌≡◌, ◌≤◌, ◌⊎◌, ◌+◌, ℕ, List, [], length, Option, Some, Result, Ok, Err}
use Rattle.sf_outside.specs.Told.{Rose}
use Rattle.sf_outside.specs.Left.{ahead}
use Rattle.sf_outside.specs.Splits.{Lists}
use Rattle.sf_disk.specs.Moments.{Moment, WhereTold}
use Rattle.address_routing.specs.declared.module.Module.{Module}
use Rattle.module_yaml.specs.Files.{module_in}
use Rattle.run_record.specs.declared.entry.Entry.{Entry}
use Rattle.folder_form.specs.declared.loaded.Loaded.{Loaded}
use Rattle.snapshot_files.specs.Opening.{BreaksAt, seen}
use Rattle.command_io.specs.Reading.{IsWhole}
use Rattle.command_io.specs.Runs.{Command}
use Rattle.folder_audit.specs.declared.end.AuditEnd.{AuditEnd}
use Rattle.folder_audit.specs.declared.end.AuditEnd.TheVariants.{Yes, NoEntry, NoState, Help, Usage, ModuleFault, ModuleRefused, IngressFault, DiskFault, NotAStore, StoreOfOther, OutOfMemory}
use Rattle.folder_audit.specs.Words.{audit_app}
use Rattle.folder_audit.specs.Ends.{end_status, end_text}
use Rattle.folder_audit.specs.Stored.{HasNoJob, HasOtherJob, HasRecord}
use Rattle.folder_audit.specs.Judged.{IsJudged}

-- ---- what stands outside

-- what a module file has left, the ingress has and a disk tells, and how often each failed
pub record Outside : Type 0 where
  pub left : Option (List ℕ)
  pub module_faults : ℕ
  pub lists : Option Lists
  pub ingress_faults : ℕ
  pub moments : List Moment
  pub disk_faults : ℕ

abbrev pub outside : Option (List ℕ) → ℕ → Option Lists → ℕ → List Moment → ℕ → Outside
outside left module_faults lists ingress_faults moments disk_faults = record {
  left = left;
  module_faults = module_faults;
  lists = lists;
  ingress_faults = ingress_faults;
  moments = moments;
  disk_faults = disk_faults;
}

abbrev pub HasRisen : ℕ → ℕ → Type 0
HasRisen before now = (before ≤ now) × Rose before now

-- ---- by what was found in the folder

-- A record was judged. The ingress failed exactly where the end is its fault.
abbrev pub IsRecordAudited : Module → List Entry → Loaded → Option Lists → ℕ → ℕ → AuditEnd → Type 0
IsRecordAudited m entries loaded lists before now IngressFault = HasRisen before now
IsRecordAudited m entries loaded lists before now OutOfMemory = now ≡ before
IsRecordAudited m entries loaded lists before now end = (now ≡ before) × IsJudged m lists entries loaded end

-- a record that the folder has was judged so
abbrev pub IsStoredAudited : Module → List Moment → Option Lists → AuditEnd → Type 0
IsStoredAudited m moments lists end =
    (entries : List Entry) × (loaded : Loaded) × WhereTold moments (λ now. HasRecord m entries loaded (seen now)) × IsJudged m lists entries loaded end

-- A folder was audited as one of a job: an empty one is at checkpoint 0.
abbrev pub IsJobAudited : Module → List Moment → Option Lists → ℕ → ℕ → ℕ → ℕ → AuditEnd → Type 0
IsJobAudited m moments lists ingress ingress' disk disk' IngressFault = HasRisen ingress ingress' × (disk' ≡ disk)
IsJobAudited m moments lists ingress ingress' disk disk' DiskFault = (ingress' ≡ ingress) × HasRisen disk disk'
IsJobAudited m moments lists ingress ingress' disk disk' OutOfMemory = (ingress' ≡ ingress) × (disk' ≡ disk)
IsJobAudited m moments lists ingress ingress' disk disk' (NotAStore file place) =
    (ingress' ≡ ingress) × (disk' ≡ disk) × WhereTold moments (λ now. BreaksAt (seen now) file place)
IsJobAudited m moments lists ingress ingress' disk disk' StoreOfOther = (ingress' ≡ ingress) × (disk' ≡ disk) × WhereTold moments (λ now. HasOtherJob m (seen now))
IsJobAudited m moments lists ingress ingress' disk disk' (Yes checkpoint count) =
    (ingress' ≡ ingress) × (disk' ≡ disk)
    × (IsStoredAudited m moments lists (Yes checkpoint count) ⊎ ((checkpoint ≡ 0) × (count ≡ 0) × WhereTold moments (λ now. HasNoJob (seen now))))
IsJobAudited m moments lists ingress ingress' disk disk' end = (ingress' ≡ ingress) × (disk' ≡ disk) × IsStoredAudited m moments lists end

-- ---- by the module file

-- the bytes of a module file mean a job, as one of which the folder was audited, or are refused
abbrev pub IsBytesAudited : List ℕ → List Moment → Option Lists → ℕ → ℕ → ℕ → ℕ → AuditEnd → Type 0
IsBytesAudited bytes moments lists ingress ingress' disk disk' OutOfMemory = (ingress' ≡ ingress) × (disk' ≡ disk)
IsBytesAudited bytes moments lists ingress ingress' disk disk' (ModuleRefused document line kind) =
    (ingress' ≡ ingress) × (disk' ≡ disk) × (module_in bytes ≡ Err (document, record { line = line; kind = kind }))
IsBytesAudited bytes moments lists ingress ingress' disk disk' end =
    (m : Module) × (module_in bytes ≡ Ok m) × IsJobAudited m moments lists ingress ingress' disk disk' end

-- the most bytes of a module file, of which one more tells that it is too long
abbrev pub longest_file : ℕ
longest_file = 1048576

-- a read of the module file failed, memory ran out while it was read, or it was read whole and what it means was done
abbrev pub IsFileAudited : List ℕ → Outside → Outside → AuditEnd → Type 0
IsFileAudited heard before after ModuleFault =
    HasRisen before.module_faults after.module_faults × (after.ingress_faults ≡ before.ingress_faults) × (after.disk_faults ≡ before.disk_faults)
IsFileAudited heard before after OutOfMemory =
    (after.module_faults ≡ before.module_faults) × (after.ingress_faults ≡ before.ingress_faults) × (after.disk_faults ≡ before.disk_faults)
IsFileAudited heard before after end =
    (after.module_faults ≡ before.module_faults) × IsWhole longest_file heard after.left
    × IsBytesAudited heard before.moments after.lists before.ingress_faults after.ingress_faults before.disk_faults after.disk_faults end

-- A module file was read, up to one byte past the limit, and what became of it.
pub record IsAudited (before after : Outside) (end : AuditEnd) : Type 0 where
  pub heard : List ℕ
  pub taken : before.left ≡ ahead heard after.left
  pub bound : length heard ≤ longest_file + 1
  pub audited : IsFileAudited heard before after end

abbrev pub audit_command : Command Outside AuditEnd
audit_command = record {
  app = audit_app;
  works = IsAudited;
  text = end_text;
  status = end_status;
  help = Help;
  usage = Usage;
  memory = OutOfMemory;
}
