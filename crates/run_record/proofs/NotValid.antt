-- An answer that is not valid.
use Rattle.std.proofs.Common.{◌≡◌, ◌∙◌, ap, refl, cond, Bool, true, false, Option, Some, None, option_map, option_and_then}
use Rattle.typed_values.specs.declared.letter.Sender.TheVariants.{Function}
use Rattle.sf_outside.specs.declared.ingress.IngressRecord.{IngressRecord}
use Rattle.request_reply.specs.declared.flaw.Flaw.{Flaw}
use Rattle.address_routing.specs.declared.module.Module.{Module}
use Rattle.invocation.specs.declared.judging.Judged.TheVariants.{Flaw as Refused}
use Rattle.run_record.specs.declared.entry.Step.TheVariants.{Batch, Register}
use Rattle.run_record.specs.declared.entry.Reply.{Reply}
use Rattle.run_record.specs.Machine.{State, is_asked, judged, batch_act, register_act, acted, step_with}
use Rattle.run_record.proofs.Steps.{batch-made, register-made}

pub not_batch : (m : Module) (found : Option IngressRecord) (st : State) (reply : Reply) (flaw : Flaw) → judged m (st.own (Function reply.address)) reply ≡ Refused flaw → step_with m found st (Batch reply) ≡ None
not_batch m found st reply flaw is =
    ap (option_map (λ act. acted (Batch reply) act st)) (batch-made m found st reply ∙ ap (λ j. option_and_then (λ k. batch_act reply k (st.own (Function reply.address))) (cond (is_asked m (st.own (Function reply.address)) st.mail reply) (Some j) None)) is ∙ by (is_asked m (st.own (Function reply.address)) st.mail reply))
  where
    by : (b : Bool) → option_and_then (λ k. batch_act reply k (st.own (Function reply.address))) (cond b (Some (Refused flaw)) None) ≡ None
    by true = refl
    by false = refl

pub not_register : (m : Module) (found : Option IngressRecord) (st : State) (reply : Reply) (flaw : Flaw) → judged m (st.own (Function reply.address)) reply ≡ Refused flaw → step_with m found st (Register reply) ≡ None
not_register m found st reply flaw is =
    ap (option_map (λ act. acted (Register reply) act st)) (register-made m found st reply ∙ ap (λ j. option_and_then (λ k. register_act reply k (st.own (Function reply.address))) (cond (is_asked m (st.own (Function reply.address)) st.mail reply) (Some j) None)) is ∙ by (is_asked m (st.own (Function reply.address)) st.mail reply))
  where
    by : (b : Bool) → option_and_then (λ k. register_act reply k (st.own (Function reply.address))) (cond b (Some (Refused flaw)) None) ≡ None
    by true = refl
    by false = refl
