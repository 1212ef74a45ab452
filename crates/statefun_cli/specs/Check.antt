-- What `statefun check` writes, and when.
use Rattle.std.specs.Prelude.{◌≡◌, ◌≢◌, ℕ, List, [], ◌∷◌, ◌++◌, codes, Option, Some, None, Result, Ok, Err}
use Rattle.std.specs.Fmt.{decimal}
use Rattle.proto_wire.specs.Kinds.{module_kind_name}
use Rattle.sf_outside.specs.declared.fault.Fault.{Fault}
use Rattle.sf_outside.specs.declared.fault.Fault.TheVariants.{Failed, OutOfMemory}
use Rattle.sf_outside.specs.Told.{HasCause}
use Rattle.address_routing.specs.declared.module.Module.{Module}
use Rattle.address_routing.specs.JobText.{job_text}
use Rattle.module_yaml.specs.Files.{Refused, module_in}
use Rattle.statefun_cli.specs.declared.check_words.CheckAsk.{CheckAsk}
use Rattle.statefun_cli.specs.declared.check_words.CheckAsk.TheVariants.{Module as ModuleAsked, Help as HelpAsked, Usage as UsageAsked}
use Rattle.statefun_cli.specs.declared.check.CheckEnd.{CheckEnd}
use Rattle.statefun_cli.specs.declared.check.CheckEnd.TheVariants.{Accepted, Refused as ModuleRefused, Help, Usage, ModuleFault}
use Rattle.statefun_cli.specs.CheckWords.{AsksFor}
use Rattle.statefun_cli.specs.Outside.{Outside, IsRead, IsUnread, Reader, Tells, usage_line}

-- ---- the text

-- `module refused document D line L kind NAME`
abbrev pub refused_line : Refused → List ℕ
refused_line (document, refusal) =
    codes "module refused document " ++ (decimal document ++ (codes " line " ++ (decimal refusal.line ++ (codes " kind " ++ (module_kind_name refusal.kind ++ 10 ∷ [])))))

-- a read of the module file failed
abbrev pub module_fault_line : List ℕ
module_fault_line = codes "module fault" ++ 10 ∷ []

abbrev pub text_by : Result Module Refused → List ℕ
text_by (Ok m) = job_text m
text_by (Err refused) = refused_line refused

abbrev pub end_by : Result Module Refused → CheckEnd
end_by (Ok m) = Accepted
end_by (Err refused) = ModuleRefused

-- what is written of the bytes of a module file: the text of its module, or its first refusal
abbrev pub check_text : List ℕ → List ℕ
check_text bytes = text_by (module_in bytes)

-- and how that ends
abbrev pub check_end : List ℕ → CheckEnd
check_end bytes = end_by (module_in bytes)

-- the status of an end; an `Err` is the sink's fault or want of memory
abbrev pub check_status : Result CheckEnd Fault → ℕ
check_status (Ok Accepted) = 0
check_status (Ok Help) = 0
check_status (Ok Usage) = 2
check_status (Ok ModuleFault) = 3
check_status (Ok ModuleRefused) = 4
check_status (Err Failed) = 11
check_status (Err OutOfMemory) = 15

-- what is written where help is asked for
unfoldable pub check_help : List ℕ
check_help =
    codes "Reads a module file and writes what it is made of, or its first refusal\n\nUsage: statefun check <MODULE>\n\nArguments:\n"
    ++ (codes "  <MODULE>  The module file\n\n"
    ++ codes "Options:\n  -h, --help  Print help\n")

-- ---- runs

-- what is made of a module file, of which one byte more than it may have tells that it is too long
abbrev pub reader : Reader CheckEnd
reader = record {
  limit = 1048576;
  text = check_text;
  ending = check_end;
  fault_text = module_fault_line;
  fault_ending = ModuleFault;
}

-- A module file was read, and its text is told.
abbrev pub IsChecked : Outside → Outside → Result CheckEnd Fault → Type 0
IsChecked before after end = IsRead reader before after end

-- what was asked for was done; nothing where memory ran out at the words
abbrev pub IsAnswered : Option CheckAsk → Outside → Outside → Result CheckEnd Fault → Type 0
IsAnswered None before after end = IsUnread before after × (end ≡ Err OutOfMemory) × (after.written ≡ before.written)
IsAnswered (Some ModuleAsked) before after end = IsChecked before after end
IsAnswered (Some HelpAsked) before after end = IsUnread before after × Tells before.written after.written check_help Help end
IsAnswered (Some UsageAsked) before after end = IsUnread before after × Tells before.written after.written usage_line Usage end

abbrev pub IsAsked : List (List ℕ) → Option CheckAsk → Type 0
IsAsked words None = Unit {0}
IsAsked words (Some ask) = AsksFor words ask

-- A run of the command, up to its end: what its words ask for was done. The sink failed exactly where the end is its fault.
pub record IsAskedRun (words : List (List ℕ)) (before after : Outside) (end : Result CheckEnd Fault) : Type 0 where
  pub ask : Option CheckAsk
  pub asked : IsAsked words ask
  pub answered : IsAnswered ask before after end
  pub sink_cause : HasCause before.write_faults after.write_faults end

-- and to its status
pub record IsCheckRun (words : List (List ℕ)) (before after : Outside) (status : ℕ) : Type 0 where
  pub end : Result CheckEnd Fault
  pub status_is : status ≡ check_status end
  pub run : IsAskedRun words before after end

-- a word that is not empty and does not begin with `-`
abbrev pub IsPlain : List ℕ → Type 0
IsPlain [] = ⊥
IsPlain (byte ∷ bytes) = byte ≢ 45

-- A run on right words checks a module file.
pub record IsRightRun (before after : Outside) (status : ℕ) : Type 0 where
  pub end : Result CheckEnd Fault
  pub status_is : status ≡ check_status end
  pub checked : IsChecked before after end
  pub sink_cause : HasCause before.write_faults after.write_faults end

-- A run that is asked for help writes the help, and reads nothing.
pub record IsHelpRun (before after : Outside) (status : ℕ) : Type 0 where
  pub end : Result CheckEnd Fault
  pub status_is : status ≡ check_status end
  pub unread : IsUnread before after
  pub told : Tells before.written after.written check_help Help end
  pub sink_cause : HasCause before.write_faults after.write_faults end
