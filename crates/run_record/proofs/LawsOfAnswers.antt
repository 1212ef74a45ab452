-- What an answer spells is what its step does.
use Rattle.std.proofs.Common.{◌≡◌, ◌∙◌, sym, ap, refl, ◌≤◌, nat_lt, List, length, Bool, true, false, cond, Option, Some, None, Result, Ok, Err}
use Rattle.std.proofs.lemmas.Bool.{ltb-false}
use Rattle.proto_wire.specs.declared.fault.WireFault.{WireFault}
use Rattle.typed_values.specs.declared.letter.Sender.TheVariants.{Function}
use Rattle.typed_values.specs.declared.cell.CellSpec.{CellSpec}
use Rattle.sf_outside.specs.declared.ingress.IngressRecord.{IngressRecord}
use Rattle.request_reply.specs.declared.answer.FromFunction.{FromFunction}
use Rattle.request_reply.specs.declared.answer.FromFunction.TheVariants as answers
use Rattle.request_reply.specs.declared.flaw.Flaw.{Flaw}
use Rattle.request_reply.specs.declared.judging.Judgement.TheVariants as judgements
use Rattle.request_reply.specs.Flaws.{answer_flaw, wire_flaw, too_long}
use Rattle.request_reply.specs.Valid.{asked, unless, read_verdict, verdict}
use Rattle.request_reply.specs.Spelling.{from_value}
use Rattle.address_routing.specs.declared.module.Module.{Module}
use Rattle.invocation.specs.declared.effects.Effects.{Effects}
use Rattle.invocation.specs.declared.judging.Judged.{Judged}
use Rattle.invocation.specs.declared.judging.Judged.TheVariants as judged_as
use Rattle.invocation.specs.Judging.{setting_of, done_by, judgement}
use Rattle.run_record.specs.declared.entry.Step.TheVariants.{Batch, Register}
use Rattle.run_record.specs.declared.entry.Reply.{Reply}
use Rattle.run_record.specs.Machine.{Own, State, Act, served, declared, judged, batch_act, register_act, made}
use Rattle.run_record.specs.Spelled.{IsValid, IsServed, IsDeclared}
use Rattle.run_record.proofs.Steps.{made-some}

-- a judgement that is no flaw is that of a valid answer
record Asks (m : Module) (own : Own) (reply : Reply) (j : Judged) : Type 0 where
  answer : FromFunction
  valid : IsValid m own reply answer
  is : j ≡ done_by reply.address reply.moment (asked (setting_of m own.cells) answer)

abbrev Judges : Module → Own → Reply → Judged → Type 0
Judges m own reply (judged_as.Flaw flaw) = Unit {0}
Judges m own reply (judged_as.Accept effects) = Asks m own reply (judged_as.Accept effects)
Judges m own reply (judged_as.Register specs) = Asks m own reply (judged_as.Register specs)

judges : (m : Module) (own : Own) (reply : Reply) → Judges m own reply (judged m own reply)
unfolding judgement verdict read_verdict
judges m own reply = by_length (nat_lt 4194304 (length reply.answer)) refl (from_value reply.answer) refl
  where
    by_flaw : length reply.answer ≤ 4194304 → (read : FromFunction) → from_value reply.answer ≡ Ok read → (o : Option Flaw) → answer_flaw (setting_of m own.cells) read ≡ o → Judges m own reply (done_by reply.address reply.moment (unless o (asked (setting_of m own.cells) read)))
    by_flaw short (answers.Result response) reads None none = record { answer = answers.Result response; valid = record { short = short; spells = reads; flawless = none }; is = refl }
    by_flaw short (answers.Incomplete context) reads None none = record { answer = answers.Incomplete context; valid = record { short = short; spells = reads; flawless = none }; is = refl }
    by_flaw short read reads (Some flaw) some = tt

    by_length : (long : Bool) → nat_lt 4194304 (length reply.answer) ≡ long → (read : Result FromFunction WireFault) → from_value reply.answer ≡ read
        → Judges m own reply (done_by reply.address reply.moment (cond long (judgements.Flaw (wire_flaw too_long)) (read_verdict (setting_of m own.cells) read)))
    by_length true is read reads = tt
    by_length false is (Err fault) reads = tt
    by_length false is (Ok read) reads = by_flaw (ltb-false 4194304 (length reply.answer) is) read reads (answer_flaw (setting_of m own.cells) read) refl

effects_in : Effects → Judged → Effects
effects_in other (judged_as.Accept effects) = effects
effects_in other (judged_as.Register specs) = other
effects_in other (judged_as.Flaw flaw) = other

specs_in : List CellSpec → Judged → List CellSpec
specs_in other (judged_as.Accept effects) = other
specs_in other (judged_as.Register specs) = specs
specs_in other (judged_as.Flaw flaw) = other

the_act : {A B : Type 0} (f : A → B) (x y : A) → Some x ≡ Some y → f x ≡ f y
the_act f x y e = let same : x ≡ y = cc in ap f same

pub batch_spelled : (m : Module) (found : Option IngressRecord) (st : State) (reply : Reply) (act : Act) → made m found st (Batch reply) ≡ Some act → IsServed m (st.own (Function reply.address)) reply act
unfolding effects_in
batch_spelled m found st reply act h = by (judged m own reply) (judges m own reply) (made-some m found st (Batch reply) act h).does
  where
    own : Own
    own = st.own (Function reply.address)

    of_answer : (effects : Effects) → served reply effects own ≡ act → (answer : FromFunction) → IsValid m own reply answer → judged_as.Accept effects ≡ done_by reply.address reply.moment (asked (setting_of m own.cells) answer) → IsServed m own reply act
    of_answer effects e (answers.Result response) valid is = (response, valid, sym e ∙ ap (λ j. served reply (effects_in effects j) own) is)
    of_answer effects e (answers.Incomplete context) valid is = absurd cc

    by : (j : Judged) → Judges m own reply j → batch_act reply j own ≡ Some act → IsServed m own reply act
    by (judged_as.Accept effects) asks e = of_answer effects (the_act (λ (a : Act). a) (served reply effects own) act e) asks.answer asks.valid asks.is
    by (judged_as.Register specs) asks e = absurd cc
    by (judged_as.Flaw flaw) asks e = absurd cc

pub register_spelled : (m : Module) (found : Option IngressRecord) (st : State) (reply : Reply) (act : Act) → made m found st (Register reply) ≡ Some act → IsDeclared m (st.own (Function reply.address)) reply act
unfolding specs_in
register_spelled m found st reply act h = by (judged m own reply) (judges m own reply) (made-some m found st (Register reply) act h).does
  where
    own : Own
    own = st.own (Function reply.address)

    of_answer : (specs : List CellSpec) → declared reply specs own ≡ act → (answer : FromFunction) → IsValid m own reply answer → judged_as.Register specs ≡ done_by reply.address reply.moment (asked (setting_of m own.cells) answer) → IsDeclared m own reply act
    of_answer specs e (answers.Result response) valid is = absurd cc
    of_answer specs e (answers.Incomplete context) valid is = (context, valid, sym e ∙ ap (λ j. declared reply (specs_in specs j) own) is)

    by : (j : Judged) → Judges m own reply j → register_act reply j own ≡ Some act → IsDeclared m own reply act
    by (judged_as.Accept effects) asks e = absurd cc
    by (judged_as.Register specs) asks e = of_answer specs (the_act (λ (a : Act). a) (declared reply specs own) act e) asks.answer asks.valid asks.is
    by (judged_as.Flaw flaw) asks e = absurd cc
