-- A run of a module over a folder: what it comes to, and what is written of it.
use Rattle.std.specs.Prelude.{◌≡◌, ◌≤◌, ◌+◌, ◌⊎◌, ℕ, List, length, take, Option, Result, Ok, Err}
use Rattle.sf_outside.specs.declared.call.LinkEvent.{LinkEvent}
use Rattle.sf_outside.specs.declared.call.Exchange.{Exchange}
use Rattle.sf_outside.specs.declared.fault.Fault.{Fault}
use Rattle.sf_outside.specs.declared.fault.Fault.TheVariants as fault
use Rattle.sf_outside.specs.Told.{HasCause, Rose, more}
use Rattle.sf_outside.specs.Left.{ahead}
use Rattle.sf_outside.specs.Splits.{Lists}
use Rattle.sf_disk.specs.Moments.{Moment}
use Rattle.address_routing.specs.declared.module.Module.{Module}
use Rattle.module_yaml.specs.Files.{Refused, module_in}
use Rattle.store_faults.specs.declared.fault.StoreFault.{StoreFault}
use Rattle.store_faults.specs.declared.fault.StoreFault.TheVariants as store
use Rattle.statefun_driver.specs.declared.end.End.{End}
use Rattle.statefun_driver.specs.declared.end.End.TheVariants as turns
use Rattle.statefun_driver.specs.declared.end.Broken.TheVariants.{Ingress, Link, Memory}
use Rattle.statefun_driver.specs.Seen.{Objects, Seen}
use Rattle.run_words.specs.declared.words.RunWords.{RunWords}
use Rattle.command_io.specs.Reading.{IsWhole}
use Rattle.checkpoint_drive.specs.declared.end.DriveEnd.{DriveEnd}
use Rattle.checkpoint_drive.specs.declared.end.DriveEnd.TheVariants as drives
use Rattle.checkpoint_drive.specs.declared.options.Options.{Options}
use Rattle.checkpoint_drive.specs.Jobs.{folder_text}
use Rattle.checkpoint_drive.specs.Driven.{HasDiskCause, IsDriven, IsStop}
use Rattle.checkpoint_drive.specs.Good.{KeepsGood}
use Rattle.folder_run.specs.declared.end.RunEnd.{RunEnd}
use Rattle.folder_run.specs.declared.end.RunEnd.TheVariants.{Done, Usage, ModuleFault, ModuleRefused, TurnsSpent, EndpointFailed, BatchTooLarge, RecordTooLarge}
use Rattle.folder_run.specs.declared.end.RunEnd.TheVariants.{IngressFault, DiskFault, LinkFault, SinkFault, NotAStore, StoreOfOther, OutOfMemory}
use Rattle.folder_run.specs.Ends.{end_line}

-- ---- what is written

-- a part of a text was written, from the front
abbrev pub IsPart : Option (List ℕ) → Option (List ℕ) → List ℕ → Type 0
IsPart before after text = (k : ℕ) × (k ≤ length text) × (after ≡ more before (take k text))

-- An end was told: its line was written. Where the sink failed or memory ran out, a part of it was.
abbrev pub IsTold : Option (List ℕ) → Option (List ℕ) → RunEnd → RunEnd → Type 0
IsTold before after told SinkFault = IsPart before after (end_line told)
IsTold before after told OutOfMemory = IsPart before after (end_line told)
IsTold before after told end = (end ≡ told) × (after ≡ more before (end_line told))

-- any end but a fault of the sink
abbrev pub IsNoSinkFault : RunEnd → Type 0
IsNoSinkFault SinkFault = ⊥
IsNoSinkFault end = Unit {0}

-- the sink's count of faults rose where the end is its fault, and else stands
abbrev pub IsSinkCauseOf : ℕ → ℕ → RunEnd → Type 0
IsSinkCauseOf before now SinkFault = (before ≤ now) × Rose before now
IsSinkCauseOf before now end = now ≡ before

-- ---- what stands outside

-- what the ingress, the link and the clock tell, what the disk tells and how often it failed, and what the sink holds
pub record Around : Type 0 where
  pub seen : Seen
  pub moments : List Moment
  pub disk_faults : ℕ
  pub written : Option (List ℕ)

abbrev pub around : Seen → List Moment → ℕ → Option (List ℕ) → Around
around seen moments disk_faults written = record { seen = seen; moments = moments; disk_faults = disk_faults; written = written }

abbrev pub seen_of : Objects → Option Lists → Option (List ℕ) → Option (List LinkEvent) → List Exchange → ℕ → ℕ → ℕ → Seen
seen_of objects lists moments journal exchanges ingress_faults link_faults losses = record {
  objects = objects;
  lists = lists;
  moments = moments;
  journal = journal;
  exchanges = exchanges;
  ingress_faults = ingress_faults;
  link_faults = link_faults;
  losses = losses;
}

-- what a module file tells of itself: what is left of it, and how often it failed
pub record File : Type 0 where
  pub left : Option (List ℕ)
  pub faults : ℕ

abbrev pub file : Option (List ℕ) → ℕ → File
file left faults = record { left = left; faults = faults }

-- ---- ends

-- the end of a command by what the folder answered
abbrev pub fault_end : StoreFault → RunEnd
fault_end store.DiskFault = DiskFault
fault_end (store.NotAStore file place) = NotAStore file place
fault_end (store.StoreOfOther kept given) = StoreOfOther kept given
fault_end store.OutOfMemory = OutOfMemory

-- by that of a leg's turn, which is never done or spent
abbrev pub turns_end : End → RunEnd
turns_end (turns.Done taken) = OutOfMemory
turns_end (turns.TurnsSpent taken) = OutOfMemory
turns_end (turns.RecordTooLarge split offset size) = RecordTooLarge split offset size
turns_end (turns.BatchTooLarge address size limit) = BatchTooLarge address size limit
turns_end (turns.EndpointFailed address reasons) = EndpointFailed address reasons
turns_end (turns.Broke Ingress) = IngressFault
turns_end (turns.Broke Link) = LinkFault
turns_end (turns.Broke Memory) = OutOfMemory

-- by that of the run
abbrev pub run_end : DriveEnd → RunEnd
run_end (drives.Done checkpoint) = Done checkpoint
run_end (drives.TurnsSpent checkpoint legs) = TurnsSpent checkpoint legs
run_end (drives.Refused fault) = fault_end fault
run_end (drives.Stopped end) = turns_end end

-- ends that a run may have
abbrev pub CanBe : DriveEnd → Type 0
CanBe (drives.Stopped end) = IsStop end
CanBe end = Unit {0}

-- ---- runs

-- A run over the folder was made, as its definition says, which keeps a good folder good; and its end was told. All is said of one run.
pub record IsFolderRun (m : Module) (options : Options) (before after : Around) (end : RunEnd) : Type 0 where
  pub came : DriveEnd
  pub can : CanBe came
  pub driven : IsDriven m options (folder_text m) before.moments after.moments before.seen after.seen came
  pub good : KeepsGood m (folder_text m) before.moments after.moments before.seen after.seen came
  pub disk_cause : HasDiskCause before.disk_faults after.disk_faults came
  pub told : IsTold before.written after.written (run_end came) end

-- No run was made: nothing was read of the logs, called or touched of the folder, and an end was told.
pub record IsUnrun (why : RunEnd) (before after : Around) (end : RunEnd) : Type 0 where
  pub seen : after.seen ≡ before.seen
  pub moments : after.moments ≡ before.moments
  pub disk_faults : after.disk_faults ≡ before.disk_faults
  pub told : IsTold before.written after.written why end

-- what the bytes of a module file mean was run; what they refuse was told
abbrev pub IsMadeRun : Result Module Refused → Options → Around → Around → RunEnd → Type 0
IsMadeRun (Ok m) options before after end = IsFolderRun m options before after end
IsMadeRun (Err (document, refusal)) options before after end = IsUnrun (ModuleRefused document refusal.line refusal.kind) before after end

-- the same, unless memory ran out before the run
abbrev pub IsRunOf : Result Module Refused → Options → Around → Around → RunEnd → Type 0
IsRunOf meaning options before after end = IsUnrun OutOfMemory before after end ⊎ IsMadeRun meaning options before after end

-- the most bytes of a module file, of which one more tells that it is too long
abbrev pub longest_file : ℕ
longest_file = 1048576

-- What became of the bytes that were heard, by how the reading ended: they are all, or too many, and what they mean was run; a
-- read failed; or memory ran out.
abbrev pub IsSettledRun : Result (Unit {0}) Fault → List ℕ → Options → Option (List ℕ) → Around → Around → RunEnd → Type 0
IsSettledRun (Ok x) heard options left before after end = IsWhole longest_file heard left × IsRunOf (module_in heard) options before after end
IsSettledRun (Err fault.Failed) heard options left before after end = IsUnrun ModuleFault before after end
IsSettledRun (Err fault.OutOfMemory) heard options left before after end = IsUnrun OutOfMemory before after end

-- A module file was read, and what became of it. Its count of faults rose exactly where the reading ended with its fault.
pub record IsModuleRun (options : Options) (source source' : File) (before after : Around) (end : RunEnd) : Type 0 where
  pub heard : List ℕ
  pub taken : source.left ≡ ahead heard source'.left
  pub bound : length heard ≤ longest_file + 1
  pub read : Result (Unit {0}) Fault
  pub read_cause : HasCause source.faults source'.faults read
  pub settled : IsSettledRun read heard options source'.left before after end

-- how a run goes that words ask for
abbrev pub options_of : RunWords → Options
options_of asked = record { every = asked.every; legs = asked.turns; drain = asked.drain }

-- what the words ask for was done; at wrong ones nothing was read
abbrev pub IsCommandRun : Result RunWords ℕ → File → File → Around → Around → RunEnd → Type 0
IsCommandRun (Ok asked) source source' before after end = IsModuleRun (options_of asked) source source' before after end
IsCommandRun (Err word) source source' before after end = (source' ≡ source) × IsUnrun (Usage word) before after end
