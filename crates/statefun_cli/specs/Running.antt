-- A run of a module without a folder: what it comes to, and what is written of it.
use Rattle.std.specs.Prelude.{◌≡◌, ◌≤◌, ◌+◌, ◌⊎◌, ℕ, false, List, [], ◌++◌, length, take, Option, Result, Ok, Err}
use Rattle.sf_outside.specs.declared.call.LinkEvent.{LinkEvent}
use Rattle.sf_outside.specs.declared.call.Exchange.{Exchange}
use Rattle.sf_outside.specs.declared.fault.Fault.{Fault}
use Rattle.sf_outside.specs.declared.fault.Fault.TheVariants as fault
use Rattle.sf_outside.specs.Told.{HasCause, Rose, more}
use Rattle.sf_outside.specs.Left.{ahead}
use Rattle.sf_outside.specs.Splits.{Lists}
use Rattle.address_routing.specs.declared.module.Module.{Module}
use Rattle.run_record.specs.declared.entry.Entry.{Entry}
use Rattle.run_record.specs.Egress.{egress_of, egress_text}
use Rattle.module_yaml.specs.Files.{Refused, module_in}
use Rattle.statefun_driver.specs.declared.end.End.{End}
use Rattle.statefun_driver.specs.declared.end.End.TheVariants as turns
use Rattle.statefun_driver.specs.declared.end.Broken.TheVariants.{Ingress, Link, Memory}
use Rattle.statefun_driver.specs.Seen.{Objects, Seen}
use Rattle.statefun_driver.specs.Runs.{IsRun}
use Rattle.statefun_cli.specs.declared.end.PlainEnd.{PlainEnd}
use Rattle.statefun_cli.specs.declared.end.PlainEnd.TheVariants.{Done, Usage, ModuleFault, ModuleRefused, TurnsSpent, EndpointFailed}
use Rattle.statefun_cli.specs.declared.end.PlainEnd.TheVariants.{BatchTooLarge, RecordTooLarge, IngressFault, LinkFault, SinkFault, OutOfMemory}
use Rattle.statefun_cli.specs.Outside.{IsWhole}
use Rattle.statefun_cli.specs.Ends.{end_line}

-- ---- what is written

-- a part of a text was written, from the front
abbrev pub IsPart : Option (List ℕ) → Option (List ℕ) → List ℕ → Type 0
IsPart before after text = (k : ℕ) × (k ≤ length text) × (after ≡ more before (take k text))

-- the lines of a record's egress, and then the line of the end
abbrev pub run_text : List Entry → ℕ → PlainEnd → List ℕ
run_text entries turns end = egress_text (egress_of entries) ++ end_line end turns

-- An end was told: its text was written. Where the sink failed or memory ran out, a part of it was.
abbrev pub IsTold : Option (List ℕ) → Option (List ℕ) → List Entry → ℕ → PlainEnd → PlainEnd → Type 0
IsTold before after entries turns told SinkFault = IsPart before after (run_text entries turns told)
IsTold before after entries turns told OutOfMemory = IsPart before after (run_text entries turns told)
IsTold before after entries turns told end = (end ≡ told) × (after ≡ more before (run_text entries turns told))

-- any end but a fault of the sink
abbrev pub IsNoSinkFault : PlainEnd → Type 0
IsNoSinkFault SinkFault = ⊥
IsNoSinkFault end = Unit {0}

-- the sink's count of faults rose where the end is its fault, and else stands
abbrev pub IsSinkCauseOf : ℕ → ℕ → PlainEnd → Type 0
IsSinkCauseOf before now SinkFault = (before ≤ now) × Rose before now
IsSinkCauseOf before now end = now ≡ before

-- ---- what stands outside

-- what the ingress, the link and the clock tell, and what the sink holds, before or after a run
pub record Around : Type 0 where
  pub seen : Seen
  pub written : Option (List ℕ)

abbrev pub around : Seen → Option (List ℕ) → Around
around seen written = record { seen = seen; written = written }

abbrev pub seen_of : Objects → Option Lists → Option (List ℕ) → Option (List LinkEvent) → List Exchange → ℕ → ℕ → ℕ → Seen
seen_of objects lists moments journal exchanges ingress_faults link_faults losses = record {
  objects = objects;
  lists = lists;
  moments = moments;
  journal = journal;
  exchanges = exchanges;
  ingress_faults = ingress_faults;
  link_faults = link_faults;
  losses = losses;
}

-- what a module file tells of itself: what is left of it, and how often it failed
pub record File : Type 0 where
  pub left : Option (List ℕ)
  pub faults : ℕ

abbrev pub file : Option (List ℕ) → ℕ → File
file left faults = record { left = left; faults = faults }

-- ---- runs

-- the end of a command by that of its turns
abbrev pub plain_end : End → PlainEnd
plain_end (turns.Done taken) = Done taken
plain_end (turns.TurnsSpent taken) = TurnsSpent taken
plain_end (turns.RecordTooLarge split offset size) = RecordTooLarge split offset size
plain_end (turns.BatchTooLarge address size limit) = BatchTooLarge address size limit
plain_end (turns.EndpointFailed address reasons) = EndpointFailed address reasons
plain_end (turns.Broke Ingress) = IngressFault
plain_end (turns.Broke Link) = LinkFault
plain_end (turns.Broke Memory) = OutOfMemory

-- The turns of a module were made, and their end was told. All is said of the turns in one place.
pub record IsTurnsRun (m : Module) (turns : ℕ) (before after : Around) (entries : List Entry) (end : PlainEnd) : Type 0 where
  pub came : End
  pub run : IsRun (record { routes = m; turns = turns; rests = false }) before.seen after.seen entries came
  pub told : IsTold before.written after.written entries turns (plain_end came) end

-- No turn was made: nothing was read, called or taken, and an end was told.
pub record IsUnrun (why : PlainEnd) (before after : Around) (entries : List Entry) (end : PlainEnd) : Type 0 where
  pub none : entries ≡ []
  pub untouched : after.seen ≡ before.seen
  pub told : IsTold before.written after.written [] 0 why end

-- what the bytes of a module file mean was run; what they refuse was told
abbrev pub IsMadeRun : Result Module Refused → ℕ → Around → Around → List Entry → PlainEnd → Type 0
IsMadeRun (Ok m) turns before after entries end = IsTurnsRun m turns before after entries end
IsMadeRun (Err (document, refusal)) turns before after entries end = IsUnrun (ModuleRefused document refusal.line refusal.kind) before after entries end

-- the same, unless memory ran out before the first turn
abbrev pub IsRunOf : Result Module Refused → ℕ → Around → Around → List Entry → PlainEnd → Type 0
IsRunOf meaning turns before after entries end = IsUnrun OutOfMemory before after entries end ⊎ IsMadeRun meaning turns before after entries end

-- the most bytes of a module file, of which one more tells that it is too long
abbrev pub longest_file : ℕ
longest_file = 1048576

-- What became of the bytes that were heard, by how the reading ended: they are all, or too many, and what they mean was run; a
-- read failed; or memory ran out.
abbrev pub IsSettledRun : Result (Unit {0}) Fault → List ℕ → ℕ → Option (List ℕ) → Around → Around → List Entry → PlainEnd → Type 0
IsSettledRun (Ok x) heard turns left before after entries end = IsWhole longest_file heard left × IsRunOf (module_in heard) turns before after entries end
IsSettledRun (Err fault.Failed) heard turns left before after entries end = IsUnrun ModuleFault before after entries end
IsSettledRun (Err fault.OutOfMemory) heard turns left before after entries end = IsUnrun OutOfMemory before after entries end

-- A module file was read, and what became of it. Its count of faults rose exactly where the reading ended with its fault.
pub record IsModuleRun (turns : ℕ) (source source' : File) (before after : Around) (entries : List Entry) (end : PlainEnd) : Type 0 where
  pub heard : List ℕ
  pub taken : source.left ≡ ahead heard source'.left
  pub bound : length heard ≤ longest_file + 1
  pub read : Result (Unit {0}) Fault
  pub read_cause : HasCause source.faults source'.faults read
  pub settled : IsSettledRun read heard turns source'.left before after entries end

-- what the words ask for was done; at wrong ones nothing was read
abbrev pub IsCommandRun : Result ℕ ℕ → File → File → Around → Around → List Entry → PlainEnd → Type 0
IsCommandRun (Ok turns) source source' before after entries end = IsModuleRun turns source source' before after entries end
IsCommandRun (Err word) source source' before after entries end = (source' ≡ source) × IsUnrun (Usage word) before after entries end
