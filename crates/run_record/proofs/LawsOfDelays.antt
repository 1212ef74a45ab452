-- What steps Due send is what comes due.
use Rattle.std.proofs.Common.{◌≡◌, ◌∙◌, sym, ap, refl, ℕ, nat_lt, List, [], ◌∷◌, ◌++◌, Bool, true, false, cond, map, Option, Some, None, option_map}
use Rattle.std.specs.Option.{option_map_or}
use Rattle.std.proofs.lemmas.List.{map-append}
use Rattle.typed_values.specs.declared.address.Address.{Address}
use Rattle.typed_values.specs.declared.letter.Sender.TheVariants.{Split, Function}
use Rattle.typed_values.specs.declared.record.Delay.{Delay}
use Rattle.typed_values.specs.Sameness.{same_sender, same_address}
use Rattle.typed_values.proofs.Sameness.{same_address-Decides}
use Rattle.typed_values.specs.Delays.{cancelled, due_at}
use Rattle.sf_outside.specs.declared.ingress.IngressRecord.{IngressRecord}
use Rattle.sf_outside.specs.Splits.{Lists}
use Rattle.delayed_messages.specs.Laws.{Call, Puts, Cancels, Asks, after_all, left_by, came, sent_by}
use Rattle.address_routing.specs.declared.module.Module.{Module}
use Rattle.address_routing.specs.Routing.{splits_in}
use Rattle.invocation.specs.declared.judging.Judged.{Judged}
use Rattle.invocation.specs.declared.judging.Judged.TheVariants.{Accept, Register as Declare, Flaw}
use Rattle.invocation.specs.declared.effects.DelayChange.{DelayChange}
use Rattle.invocation.specs.declared.effects.DelayChange.TheVariants.{Add, Cancel}
use Rattle.run_record.specs.declared.entry.Entry.{Entry}
use Rattle.run_record.specs.declared.entry.Step.{Step}
use Rattle.run_record.specs.declared.entry.Step.TheVariants.{Take, Batch, Register, Due}
use Rattle.run_record.specs.Machine.{Own, State, Act, actor_of, delay_call, later_letter, took, sent_later, judged, batch_act, register_act, act_of, left, acted}
use Rattle.run_record.specs.Record.{next_record, replayed}
use Rattle.run_record.specs.Deliveries.{over_acts}
use Rattle.run_record.specs.Histories.{sent_in, late_letter}
use Rattle.run_record.proofs.Steps.{made-some, some_from_map}
use Rattle.run_record.proofs.LawsOfOwn.{first_of, delay_calls_from, same_functions}

came-append : (moment : ℕ) (due : Option (Delay × List Delay)) (more others : List (ℕ × Delay)) → came moment due (more ++ others) ≡ came moment due more ++ others
came-append moment None more others = refl
came-append moment (Some due) more others = refl

sent_by-append : (calls others : List Call) (delays : List Delay) → sent_by (calls ++ others) delays ≡ sent_by calls delays ++ sent_by others (after_all calls delays)
sent_by-append [] others delays = refl
sent_by-append (Puts delay ∷ calls) others delays = sent_by-append calls others (delays ++ delay ∷ [])
sent_by-append (Cancels address token ∷ calls) others delays = sent_by-append calls others (cancelled address token delays)
sent_by-append (Asks moment ∷ calls) others delays =
    let due = due_at moment delays in
    ap (came moment due) (sent_by-append calls others (left_by delays due)) ∙ came-append moment due (sent_by calls (left_by delays due)) (sent_by others (after_all calls (left_by delays due)))

-- what an answer puts and cancels sends nothing
none_sent : (address : Address) (changes : List DelayChange) (delays : List Delay) → sent_by (map (delay_call address) changes) delays ≡ []
none_sent address [] delays = refl
none_sent address (Add delay ∷ changes) delays = none_sent address changes (delays ++ delay ∷ [])
none_sent address (Cancel token ∷ changes) delays = none_sent address changes (cancelled address token delays)

module _ (address : Address) where
  quiet : (b : Bool) (calls : List Call) (delays : List Delay) → sent_by calls delays ≡ [] → [] ≡ map (late_letter address) (sent_by (cond b calls []) delays)
  quiet true calls delays e = ap (map (late_letter address)) (sym e)
  quiet false calls delays e = refl

  due_sent : (other : Address) (moment : ℕ) (st : State) (act : Act) → option_map (sent_later other moment (st.own (Function other))) (due_at moment (st.own (Function other)).delays) ≡ Some act
      → sent_in address (Due other moment) act.letters ≡ map (late_letter address) (sent_by (cond (same_sender (Function other) (Function address)) act.on_delays []) (st.own (Function address)).delays)
  due_sent other moment st act h =
      let got = some_from_map (sent_later other moment (st.own (Function other))) (due_at moment (st.own (Function other)).delays) act h in
      ap (λ (a : Act). sent_in address (Due other moment) a.letters) got.2
      ∙ by (same_address other address) refl got.0 got.1
      ∙ ap (λ b. map (late_letter address) (sent_by (cond b (Asks moment ∷ []) []) (st.own (Function address)).delays)) (sym (same_functions other address))
      ∙ ap (λ (a : Act). map (late_letter address) (sent_by (cond (same_sender (Function other) (Function address)) a.on_delays []) (st.own (Function address)).delays)) (sym got.2)
    where
      here : (due : Delay × List Delay) → other ≡ address → due_at moment (st.own (Function address)).delays ≡ Some due → (moment, later_letter other due) ∷ [] ≡ map (late_letter address) (came moment (due_at moment (st.own (Function address)).delays) [])
      here due e f = ap (λ a. (moment, later_letter a due) ∷ []) e ∙ ap (λ o. map (late_letter address) (came moment o [])) (sym f)

      by : (b : Bool) → same_address other address ≡ b → (due : Delay × List Delay) → due_at moment (st.own (Function other)).delays ≡ Some due
          → cond b ((moment, later_letter other due) ∷ []) [] ≡ map (late_letter address) (sent_by (cond b (Asks moment ∷ []) []) (st.own (Function address)).delays)
      by true t due e =
          let same = (same_address-Decides other address).0 t in
          here due same (ap (λ a. due_at moment (st.own (Function a)).delays) (sym same) ∙ e)
      by false t due e = refl

  -- what one step sends
  step_sent : (m : Module) (found : Option IngressRecord) (st : State) (step : Step) (act : Act) → act_of m found (st.own (actor_of step)) step ≡ Some act
      → sent_in address step act.letters ≡ map (late_letter address) (sent_by (cond (same_sender (actor_of step) (Function address)) act.on_delays []) (st.own (Function address)).delays)
  step_sent m found st (Take split) act h = quiet (same_sender (Split split) (Function address)) act.on_delays (st.own (Function address)).delays (by (nat_lt split (splits_in m.ingresses)) h)
    where
      by : (b : Bool) → cond b (option_map (took m split (st.own (Split split))) found) None ≡ Some act → sent_by act.on_delays (st.own (Function address)).delays ≡ []
      by true e = ap (λ (a : Act). sent_by a.on_delays (st.own (Function address)).delays) (some_from_map (took m split (st.own (Split split))) found act e).2
      by false e = absurd cc
  step_sent m found st (Batch reply) act h = quiet (same_sender (Function reply.address) (Function address)) act.on_delays (st.own (Function address)).delays (by (judged m (st.own (Function reply.address)) reply) h)
    where
      by : (j : Judged) → batch_act reply j (st.own (Function reply.address)) ≡ Some act → sent_by act.on_delays (st.own (Function address)).delays ≡ []
      by (Accept effects) e = sym (ap (λ (o : Option Act). option_map_or (λ (a : Act). sent_by a.on_delays (st.own (Function address)).delays) o []) e) ∙ none_sent reply.address effects.delays (st.own (Function address)).delays
      by (Declare specs) e = absurd cc
      by (Flaw flaw) e = absurd cc
  step_sent m found st (Register reply) act h = quiet (same_sender (Function reply.address) (Function address)) act.on_delays (st.own (Function address)).delays (by (judged m (st.own (Function reply.address)) reply) h)
    where
      by : (j : Judged) → register_act reply j (st.own (Function reply.address)) ≡ Some act → sent_by act.on_delays (st.own (Function address)).delays ≡ []
      by (Accept effects) e = absurd cc
      by (Declare specs) e = sym (ap (λ (o : Option Act). option_map_or (λ (a : Act). sent_by a.on_delays (st.own (Function address)).delays) o []) e)
      by (Flaw flaw) e = absurd cc
  step_sent m found st (Due other moment) act h = due_sent other moment st act h

  left_delays : (b : Bool) (act : Act) (own : Own) → (cond b (left act own) own).delays ≡ after_all (cond b act.on_delays []) own.delays
  left_delays true act own = refl
  left_delays false act own = refl

  pub late_is : (m : Module) (lists : Lists) (st last : State) (entries : List Entry) → replayed m lists st entries ≡ Some last
      → over_acts (λ before step act. sent_in address step act.letters) m lists st entries ≡ map (late_letter address) (sent_by (delay_calls_from m lists (Function address) st entries) (st.own (Function address)).delays)
  late_is m lists st last [] h = refl
  late_is m lists st last (entry ∷ entries) h =
      let first = first_of m lists st last entry entries h in
      let next = acted entry.step first.act st in
      let found = next_record lists (actor_of entry.step) (st.own (actor_of entry.step)) in
      let is = made-some m found st entry.step first.act first.does in
      let b = same_sender (actor_of entry.step) (Function address) in
      let delays = (st.own (Function address)).delays in
      let mine = cond b first.act.on_delays [] in
      let calls = delay_calls_from m lists (Function address) next entries in
      let late = map (late_letter address) in
      ap (λ o. option_map_or (λ act. sent_in address entry.step act.letters ++ over_acts (λ before step act. sent_in address step act.letters) m lists (acted entry.step act st) entries) o []) first.does
      ∙ ap (λ xs. xs ++ over_acts (λ before step act. sent_in address step act.letters) m lists next entries) (step_sent m found st entry.step first.act is.does)
      ∙ ap (λ xs. late (sent_by mine delays) ++ xs) (late_is m lists next last entries first.more ∙ ap (λ ds. late (sent_by calls ds)) (left_delays b first.act (st.own (Function address))))
      ∙ sym (map-append (late_letter address) (sent_by mine delays) (sent_by calls (after_all mine delays)))
      ∙ ap late (sym (sent_by-append mine calls delays))
      ∙ ap (λ o. late (sent_by (option_map_or (λ act. cond b act.on_delays [] ++ delay_calls_from m lists (Function address) (acted entry.step act st) entries) o []) delays)) (sym first.does)
