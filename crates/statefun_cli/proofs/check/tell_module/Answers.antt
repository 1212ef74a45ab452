use Rattle.std.proofs.Common.{◌≡◌, ◌∙◌, List, ℕ, sym, subst}
use Rattle.std.specs.Prelude.{Result, Err}
use Rattle.address_routing.specs.declared.module.Module.{Module}
use Rattle.module_yaml.specs.declared.fault.ModuleFault.{ModuleFault}
use Rattle.module_yaml.specs.Files.{IsToldBy, Refused, module_in}
use Rattle.statefun_cli.specs.declared.check.CheckEnd.TheVariants.{Refused as ModuleRefused}
use Rattle.statefun_cli.specs.Check.{end_by, text_by}
use Rattle.statefun_cli.specs.Outside.{Tells}
use Rattle.statefun_cli.proofs.check.tell_module.Goals as goal

-- the line that was told is that of the refusal that the bytes mean
pub returns-in_ok-text-in-Err-Refused-clause-told : goal.returns-in_ok-text-in-Err-Refused-clause-told
returns-in_ok-text-in-Err-Refused-clause-told g c =
    let refused : Refused = (c.in-Err-Refused.document, record { line = c.in-Err-Refused.line; kind = c.in-Err-Refused.kind }) in
    let before = g.O.Sink.written c.args.out.now in
    let after = g.O.Sink.written c.tell-in-Err-Refused.new.out in
    let end = c.tell-in-Err-Refused.result in
    let meaning : module_in c.args.bytes.now ≡ Err refused = subst (λ (fault : ModuleFault). IsToldBy fault (module_in c.args.bytes.now)) c.in-Err-Refused.field-0-is c.in-Err-Refused.ensures.refused in
    let line = c.as_slice.ensures ∙ c.in_ok-text-in-Err-Refused.ensures in
    subst (λ (meaning : Result Module Refused). Tells before after (text_by meaning) (end_by meaning) end) (sym meaning)
    (subst (λ (text : List ℕ). Tells before after text ModuleRefused end) line c.tell-in-Err-Refused.ensures.told)
