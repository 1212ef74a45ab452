-- A run over a folder, with its end told.
use Rattle.std.proofs.Common.{◌≡◌, ◌∙◌, ap, sym, subst, refl, inl, inr, ℕ, List, length, arith}
use Rattle.std.proofs.Math.Seq.{take-length}
use Rattle.std.specs.Prelude.{Option, Result, Err}
use Rattle.proto_wire.specs.declared.module_kind.ModuleKind.{ModuleKind}
use Rattle.sf_outside.specs.Told.{more}
use Rattle.sf_disk.specs.Moments.{Moment}
use Rattle.module_yaml.specs.declared.fault.ModuleFault.{ModuleFault as FileFault}
use Rattle.module_yaml.specs.declared.fault.ModuleFault.TheVariants as faults
use Rattle.module_yaml.specs.Files.{IsToldBy, Refused, module_in}
use Rattle.address_routing.specs.declared.module.Module.{Module}
use Rattle.statefun_driver.specs.Seen.{Objects, Seen}
use Rattle.run_words.specs.declared.words.RunWords.{RunWords}
use Rattle.checkpoint_drive.specs.declared.end.DriveEnd.{DriveEnd}
use Rattle.checkpoint_drive.specs.declared.end.DriveEnd.TheVariants as drives
use Rattle.checkpoint_drive.specs.declared.options.Options.{Options}
use Rattle.checkpoint_drive.specs.Jobs.{folder_text}
use Rattle.checkpoint_drive.specs.Driven.{HasDiskCause, IsDriven}
use Rattle.checkpoint_drive.specs.Good.{KeepsGood}
use Rattle.folder_run.specs.declared.end.RunEnd.{RunEnd}
use Rattle.folder_run.specs.declared.end.RunEnd.TheVariants.{Done, Usage, ModuleFault, ModuleRefused, TurnsSpent, EndpointFailed, BatchTooLarge, RecordTooLarge}
use Rattle.folder_run.specs.declared.end.RunEnd.TheVariants.{IngressFault, DiskFault, LinkFault, SinkFault, NotAStore, StoreOfOther, OutOfMemory}
use Rattle.folder_run.specs.Ends.{end_line}
use Rattle.folder_run.specs.Running.{Around, CanBe, File, IsCommandRun, IsFolderRun, IsMadeRun, IsPart, IsRunOf, IsTold, IsUnrun, around, run_end}

-- ---- what is told

-- the whole is a part
part_whole : (before after : Option (List ℕ)) (text : List ℕ) → after ≡ more before text → IsPart before after text
part_whole before after text e = (length text, omega arith, e ∙ ap (more before) (sym (take-length text)))

pub told_whole : (before after : Option (List ℕ)) (end : RunEnd) → after ≡ more before (end_line end) → IsTold before after end end
told_whole before after (Done checkpoint) e = (refl, e)
told_whole before after (Usage word) e = (refl, e)
told_whole before after ModuleFault e = (refl, e)
told_whole before after (ModuleRefused document line kind) e = (refl, e)
told_whole before after (TurnsSpent checkpoint legs) e = (refl, e)
told_whole before after (EndpointFailed address reasons) e = (refl, e)
told_whole before after (BatchTooLarge address size limit) e = (refl, e)
told_whole before after (RecordTooLarge split offset size) e = (refl, e)
told_whole before after IngressFault e = (refl, e)
told_whole before after DiskFault e = (refl, e)
told_whole before after LinkFault e = (refl, e)
told_whole before after (NotAStore file place) e = (refl, e)
told_whole before after (StoreOfOther kept given) e = (refl, e)
told_whole before after SinkFault e = part_whole before after _ e
told_whole before after OutOfMemory e = part_whole before after _ e

-- ---- ends of a run

-- turns that were driven did not end by themselves
pub can_be : (m : Module) (options : Options) (text : List ℕ) (old new : List Moment) (before after : Seen) (end : DriveEnd) → IsDriven m options text old new before after end → CanBe end
can_be m options text old new before after (drives.Done checkpoint) driven = tt
can_be m options text old new before after (drives.TurnsSpent checkpoint legs) driven = tt
can_be m options text old new before after (drives.Refused fault) driven = tt
can_be m options text old new before after (drives.Stopped end) (inl run) = (run.comes.ends).3
can_be m options text old new before after (drives.Stopped end) (inr (fault, is, refused)) = absurd (let k = is in cc)

-- ---- runs

-- the legs of a run whose end was told
pub folder_run : (m : Module) (options : Options) (before after told : Seen) (old new : List Moment) (faults faults' : ℕ) (written written' : Option (List ℕ)) (came : DriveEnd) (why end : RunEnd)
    → after.objects ≡ before.objects → told ≡ record after { objects = before.objects }
    → IsDriven m options (folder_text m) old new before after came → KeepsGood m (folder_text m) old new before after came
    → HasDiskCause faults faults' came → why ≡ run_end came → IsTold written written' why end
    → IsFolderRun m options (around before old faults written) (around told new faults' written') end
folder_run m options before after told old new faults faults' written written' came why end same is driven good cause is_why tells = record {
  came = came;
  can = can_be m options (folder_text m) old new before after came driven;
  driven = subst (λ (s : Seen). IsDriven m options (folder_text m) old new before s came) is_after driven;
  good = subst (λ (s : Seen). KeepsGood m (folder_text m) old new before s came) is_after good;
  disk_cause = cause;
  told = subst (λ (w : RunEnd). IsTold written written' w end) is_why tells;
}
  where
    is_after : after ≡ told
    is_after = ap (λ (x : Objects). record after { objects = x }) same ∙ sym is

-- an end without a run
pub unrun : (why : RunEnd) (seen : Seen) (moments : List Moment) (faults : ℕ) (written written' : Option (List ℕ)) (end : RunEnd)
    → IsTold written written' why end → IsUnrun why (around seen moments faults written) (around seen moments faults written') end
unrun why seen moments faults written written' end tells = record { seen = refl; moments = refl; disk_faults = refl; told = tells }

-- what the bytes that were refused mean
pub refused_run : (meaning : Result Module Refused) (fault : FileFault) (document line : ℕ) (kind : ModuleKind) (options : Options) (before after : Around) (end : RunEnd)
    → fault ≡ faults.Refused document line kind → IsToldBy fault meaning → IsUnrun (ModuleRefused document line kind) before after end
    → IsRunOf meaning options before after end
refused_run meaning fault document line kind options before after end is told run =
    let refused : Refused = (document, record { line = line; kind = kind }) in
    let e : meaning ≡ Err refused = subst (λ (f : FileFault). IsToldBy f meaning) is told in
    inr (subst (λ (r : Result Module Refused). IsMadeRun r options before after end) (sym e) run)

-- what the same bytes mean
pub same_bytes_run : (heard given : List ℕ) (options : Options) (before after : Around) (end : RunEnd) → given ≡ heard
    → IsRunOf (module_in given) options before after end → IsRunOf (module_in heard) options before after end
same_bytes_run heard given options before after end e run = subst (λ (bytes : List ℕ). IsRunOf (module_in bytes) options before after end) e run

-- what wrong words ask for
pub usage_run : (read : Result RunWords ℕ) (word : ℕ) (source : File) (before after : Around) (end : RunEnd) → read ≡ Err word
    → IsUnrun (Usage word) before after end → IsCommandRun read source source before after end
usage_run read word source before after end e run =
    subst (λ (r : Result RunWords ℕ). IsCommandRun r source source before after end) (sym e) (refl, run)
