-- A run of turns, with its end told.
use Rattle.std.proofs.Common.{◌≡◌, ◌∙◌, ap, sym, subst, refl, inr, ℕ, false, List, []}
use Rattle.std.specs.Prelude.{Option, Result, Err}
use Rattle.proto_wire.specs.declared.module_kind.ModuleKind.{ModuleKind}
use Rattle.module_yaml.specs.declared.fault.ModuleFault.{ModuleFault as FileFault}
use Rattle.module_yaml.specs.declared.fault.ModuleFault.TheVariants as faults
use Rattle.module_yaml.specs.Files.{IsToldBy, Refused, module_in}
use Rattle.run_record.specs.declared.entry.Entry.{Entry}
use Rattle.address_routing.specs.declared.module.Module.{Module}
use Rattle.statefun_driver.specs.declared.end.End.{End}
use Rattle.statefun_driver.specs.Seen.{Objects, Seen}
use Rattle.statefun_driver.specs.Turns.{Plan}
use Rattle.statefun_driver.specs.Runs.{IsRun}
use Rattle.statefun_cli.specs.declared.end.PlainEnd.{PlainEnd}
use Rattle.statefun_cli.specs.declared.end.PlainEnd.TheVariants.{Done, Usage, ModuleFault, ModuleRefused, TurnsSpent, EndpointFailed}
use Rattle.statefun_cli.specs.declared.end.PlainEnd.TheVariants.{BatchTooLarge, RecordTooLarge, IngressFault, LinkFault, SinkFault, OutOfMemory}
use Rattle.sf_outside.specs.Told.{more}
use Rattle.statefun_cli.specs.Running.{Around, File, IsCommandRun, IsMadeRun, IsRunOf, IsTold, IsTurnsRun, IsUnrun, around, plain_end, run_text}
use Rattle.statefun_cli.proofs.Egress.{part-whole}

-- a run whose outside keeps its objects
pub named : (plan : Plan) (before after told : Seen) (entries : List Entry) (end : End) → IsRun plan before after entries end → after.objects ≡ before.objects
    → told ≡ record after { objects = before.objects } → IsRun plan before told entries end
named plan before after told entries end run same is =
    subst (λ (x : Seen). IsRun plan before x entries end) (ap (λ (x : Objects). record after { objects = x }) same ∙ sym is) run

-- what was written whole is told, unless memory ran out in the run
pub told-whole : (before after : Option (List ℕ)) (entries : List Entry) (turns : ℕ) (end : PlainEnd) → after ≡ more before (run_text entries turns end)
    → IsTold before after entries turns end end
told-whole before after entries turns (Done taken) e = (refl, e)
told-whole before after entries turns (Usage word) e = (refl, e)
told-whole before after entries turns ModuleFault e = (refl, e)
told-whole before after entries turns (ModuleRefused document line kind) e = (refl, e)
told-whole before after entries turns (TurnsSpent taken) e = (refl, e)
told-whole before after entries turns (EndpointFailed address reasons) e = (refl, e)
told-whole before after entries turns (BatchTooLarge address size limit) e = (refl, e)
told-whole before after entries turns (RecordTooLarge split offset size) e = (refl, e)
told-whole before after entries turns IngressFault e = (refl, e)
told-whole before after entries turns LinkFault e = (refl, e)
told-whole before after entries turns SinkFault e = part-whole before after _ e
told-whole before after entries turns OutOfMemory e = part-whole before after _ e

-- the turns of a run whose end was told
pub turns-run : (m : Module) (turns : ℕ) (before after : Seen) (written written' : Option (List ℕ)) (entries given : List Entry) (came : End) (told end : PlainEnd)
    → IsRun (record { routes = m; turns = turns; rests = false }) before after entries came → given ≡ entries → told ≡ plain_end came → IsTold written written' entries turns told end
    → IsTurnsRun m turns (around before written) (around after written') given end
turns-run m turns before after written written' entries given came told end run same is tells = record {
  came = came;
  run = subst (λ (es : List Entry). IsRun (record { routes = m; turns = turns; rests = false }) before after es came) (sym same) run;
  told = subst (λ (es : List Entry). IsTold written written' es turns (plain_end came) end) (sym same) (subst (λ (why : PlainEnd). IsTold written written' entries turns why end) is tells);
}

-- an end without a turn
pub unrun : (why : PlainEnd) (seen : Seen) (written written' : Option (List ℕ)) (none given : List Entry) (end : PlainEnd) → none ≡ [] → given ≡ none
    → IsTold written written' none 0 why end → IsUnrun why (around seen written) (around seen written') given end
unrun why seen written written' none given end empty same tells = record {
  none = same ∙ empty;
  untouched = refl;
  told = subst (λ (es : List Entry). IsTold written written' es 0 why end) empty tells;
}

-- what the bytes that were refused mean
pub refused-run : (meaning : Result Module Refused) (fault : FileFault) (document line : ℕ) (kind : ModuleKind) (turns : ℕ) (before after : Around) (entries : List Entry) (end : PlainEnd)
    → fault ≡ faults.Refused document line kind → IsToldBy fault meaning → IsUnrun (ModuleRefused document line kind) before after entries end
    → IsRunOf meaning turns before after entries end
refused-run meaning fault document line kind turns before after entries end is told run =
    let refused : Refused = (document, record { line = line; kind = kind }) in
    let e : meaning ≡ Err refused = subst (λ (f : FileFault). IsToldBy f meaning) is told in
    inr (subst (λ (r : Result Module Refused). IsMadeRun r turns before after entries end) (sym e) run)

-- what the same bytes mean
pub same-bytes-run : (heard given : List ℕ) (turns : ℕ) (before after : Around) (entries : List Entry) (end : PlainEnd) → given ≡ heard
    → IsRunOf (module_in given) turns before after entries end → IsRunOf (module_in heard) turns before after entries end
same-bytes-run heard given turns before after entries end e run = subst (λ (bytes : List ℕ). IsRunOf (module_in bytes) turns before after entries end) e run

-- what wrong words ask for
pub usage-run : (read : Result ℕ ℕ) (word : ℕ) (source : File) (before after : Around) (entries : List Entry) (end : PlainEnd) → read ≡ Err word
    → IsUnrun (Usage word) before after entries end → IsCommandRun read source source before after entries end
usage-run read word source before after entries end e run =
    subst (λ (r : Result ℕ ℕ). IsCommandRun r source source before after entries end) (sym e) (refl, run)
