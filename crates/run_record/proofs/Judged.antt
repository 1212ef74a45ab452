-- What becomes of an answer, and of a step.
use Rattle.std.proofs.Common.{◌≡◌, ◌∙◌, sym, ap, subst, refl, ℕ, ◌<◌, ◌≤◌, nat_le, Bool, true, false, cond, List, Option, Some, None, is_some, option_and_then, option_map, le-leb}
use Rattle.std.proofs.lemmas.Bool.{lt-leb}
use Rattle.std.specs.Prelude.{◌&&◌, unwrap_or, IsSome}
use Rattle.typed_values.specs.declared.letter.Sender.TheVariants.{Function}
use Rattle.typed_values.specs.declared.letter.Letter.{Letter}
use Rattle.typed_values.specs.declared.record.Delay.{Delay}
use Rattle.typed_values.specs.declared.address.Address.{Address}
use Rattle.typed_values.specs.Delays.{due_at}
use Rattle.sf_outside.specs.declared.ingress.IngressRecord.{IngressRecord}
use Rattle.request_reply.specs.declared.request.ToFunction.{ToFunction}
use Rattle.address_routing.specs.declared.module.Module.{Module}
use Rattle.address_routing.specs.declared.module.Endpoint.{Endpoint}
use Rattle.address_routing.specs.Routing.{endpoint_of}
use Rattle.invocation.specs.declared.judging.Judged.{Judged}
use Rattle.invocation.specs.Laws.{Fits}
use Rattle.run_record.specs.declared.entry.Step.{Step}
use Rattle.run_record.specs.declared.entry.Step.TheVariants.{Batch, Register, Due}
use Rattle.run_record.specs.declared.entry.Reply.{Reply}
use Rattle.run_record.specs.Machine.{Own, Mail, State, Act, judged, answer_by, picked, request_of_picks, batch_act, register_act, sent_later, acted, made, step_with}
use Rattle.run_record.proofs.Steps.{answer_in, batch-made, register-made, some_from_and_then}
use Rattle.run_record.proofs.Requests.{within}

-- ---- a step by what it does

pub refused : (m : Module) (found : Option IngressRecord) (st : State) (step : Step) → made m found st step ≡ None → (false ≡ is_some (step_with m found st step)) × (st ≡ unwrap_or (step_with m found st step) st)
refused m found st step e = (ap (λ o. is_some (option_map (λ act. acted step act st) o)) (sym e), ap (λ o. unwrap_or (option_map (λ act. acted step act st) o) st) (sym e))

pub done : (m : Module) (found : Option IngressRecord) (st next : State) (step : Step) (act : Act) → made m found st step ≡ Some act → next ≡ acted step act st → (true ≡ is_some (step_with m found st step)) × (next ≡ unwrap_or (step_with m found st step) st)
done m found st next step act e is = (ap (λ o. is_some (option_map (λ act. acted step act st) o)) (sym e), is ∙ ap (λ o. unwrap_or (option_map (λ act. acted step act st) o) st) (sym e))

pub batch_by : (m : Module) (found : Option IngressRecord) (st : State) (reply : Reply) (o : Option Judged) → o ≡ answer_in m st reply → made m found st (Batch reply) ≡ option_and_then (λ j. batch_act reply j (st.own (Function reply.address))) o
batch_by m found st reply o e = batch-made m found st reply ∙ ap (option_and_then (λ j. batch_act reply j (st.own (Function reply.address)))) (sym e)

pub register_by : (m : Module) (found : Option IngressRecord) (st : State) (reply : Reply) (o : Option Judged) → o ≡ answer_in m st reply → made m found st (Register reply) ≡ option_and_then (λ j. register_act reply j (st.own (Function reply.address))) o
register_by m found st reply o e = register-made m found st reply ∙ ap (option_and_then (λ j. register_act reply j (st.own (Function reply.address)))) (sym e)

pub due_made : (m : Module) (found : Option IngressRecord) (st : State) (address : Address) (moment : ℕ) → made m found st (Due address moment) ≡ option_map (sent_later address moment (st.own (Function address))) (due_at moment (st.own (Function address)).delays)
unfolding made
due_made m found st address moment = refl

pub due_allowed : (m : Module) (found : Option IngressRecord) (st : State) (address : Address) (moment : ℕ) → is_some (due_at moment (st.own (Function address)).delays) ≡ is_some (step_with m found st (Due address moment))
due_allowed m found st address moment = go (due_at moment (st.own (Function address)).delays) ∙ ap (λ o. is_some (option_map (λ act. acted (Due address moment) act st) o)) (sym (due_made m found st address moment))
  where
    go : (o : Option (Delay × List Delay)) → is_some o ≡ is_some (option_map (λ act. acted (Due address moment) act st) (option_map (sent_later address moment (st.own (Function address))) o))
    go None = refl
    go (Some due) = refl

pub due_leaves : (m : Module) (found : Option IngressRecord) (st : State) (address : Address) (moment : ℕ) → unwrap_or (option_map (λ due. acted (Due address moment) (sent_later address moment (st.own (Function address)) due) st) (due_at moment (st.own (Function address)).delays)) st ≡ unwrap_or (step_with m found st (Due address moment)) st
due_leaves m found st address moment = go (due_at moment (st.own (Function address)).delays) ∙ ap (λ o. unwrap_or (option_map (λ act. acted (Due address moment) act st) o) st) (sym (due_made m found st address moment))
  where
    go : (o : Option (Delay × List Delay)) → unwrap_or (option_map (λ due. acted (Due address moment) (sent_later address moment (st.own (Function address)) due) st) o) st ≡ unwrap_or (option_map (λ act. acted (Due address moment) act st) (option_map (sent_later address moment (st.own (Function address))) o)) st
    go None = refl
    go (Some due) = refl

-- ---- an answer that is taken

-- what is asked for has its letters
pub letters_there : (m : Module) (st : State) (reply : Reply) (j : Judged) → Some j ≡ answer_in m st reply → IsSome (picked reply.address (λ sender. st.mail sender reply.address) reply.picks)
unfolding request_of_picks
letters_there m st reply j e = by (nat_le (st.own (Function reply.address)).seen reply.moment) (request_of_picks m (st.own (Function reply.address)).cells (λ sender. st.mail sender reply.address) reply.address reply.moment reply.picks) refl e
  where
    there : (request : ToFunction) → request_of_picks m (st.own (Function reply.address)).cells (λ sender. st.mail sender reply.address) reply.address reply.moment reply.picks ≡ Some request → IsSome (picked reply.address (λ sender. st.mail sender reply.address) reply.picks)
    there request h =
        let got = some_from_and_then (λ (endpoint : Endpoint). option_and_then (λ (letters : List Letter). within m (st.own (Function reply.address)).cells (λ sender. st.mail sender reply.address) reply.address reply.moment reply.picks endpoint letters) (picked reply.address (λ sender. st.mail sender reply.address) reply.picks)) (endpoint_of m reply.address.kind) request h in
        let gave = some_from_and_then (within m (st.own (Function reply.address)).cells (λ sender. st.mail sender reply.address) reply.address reply.moment reply.picks got.0) (picked reply.address (λ sender. st.mail sender reply.address) reply.picks) request got.2 in
        rw gave.1 refl

    by : (b : Bool) (o : Option ToFunction) → request_of_picks m (st.own (Function reply.address)).cells (λ sender. st.mail sender reply.address) reply.address reply.moment reply.picks ≡ o → Some j ≡ cond (b && is_some o) (Some (judged m (st.own (Function reply.address)) reply)) None → IsSome (picked reply.address (λ sender. st.mail sender reply.address) reply.picks)
    by true (Some request) h e = there request h
    by true None h e = absurd cc
    by false o h e = absurd cc

module _ (m : Module) (mail : Mail) (reply : Reply) (own stands : Own) (same : own ≡ stands) where
  pub late : reply.moment < own.seen → None ≡ answer_by m stands mail reply
  late before = subst (λ o. None ≡ answer_by m o mail reply) same (rw (lt-leb own.seen reply.moment before) refl)

  pub unasked : own.seen ≤ reply.moment → false ≡ is_some (request_of_picks m own.cells (λ sender. mail sender reply.address) reply.address reply.moment reply.picks) → None ≡ answer_by m stands mail reply
  unasked in_time none = subst (λ o. None ≡ answer_by m o mail reply) same (λ i. cond (sym (le-leb own.seen reply.moment in_time) i && none i) (Some (judged m own reply)) None)

  pub asked : own.seen ≤ reply.moment → true ≡ is_some (request_of_picks m own.cells (λ sender. mail sender reply.address) reply.address reply.moment reply.picks) → Some (judged m own reply) ≡ answer_by m stands mail reply
  asked in_time there = subst (λ o. Some (judged m own reply) ≡ answer_by m o mail reply) same (λ i. cond (sym (le-leb own.seen reply.moment in_time) i && there i) (Some (judged m own reply)) None)

  pub fits : (j : Judged) → Fits own.cells j → Fits stands.cells j
  fits j fit = subst (λ (o : Own). Fits o.cells j) same fit

-- the letters of a batch that is made are there
pub picks_there : (m : Module) (found : Option IngressRecord) (st : State) (reply : Reply) (act : Act) → made m found st (Batch reply) ≡ Some act → IsSome (picked reply.address (λ sender. st.mail sender reply.address) reply.picks)
picks_there m found st reply act e =
    let got = some_from_and_then (λ j. batch_act reply j (st.own (Function reply.address))) (answer_in m st reply) act (sym (batch-made m found st reply) ∙ e) in
    letters_there m st reply got.0 (sym got.1)
