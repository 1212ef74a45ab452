-- What a machine keeps of the egress is what the record's answers spell.
use Rattle.std.proofs.Common.{◌≡◌, ◌∙◌, sym, ap, refl, ℕ, nat_lt, List, [], ◌∷◌, ◌++◌, length, Bool, true, false, cond, map, filter, Option, Some, None, Result, Ok, Err, option_map, append_assoc, append-nil}
use Rattle.std.specs.Option.{option_map_or}
use Rattle.std.proofs.lemmas.Option.{same_Some}
use Rattle.std.proofs.lemmas.List.{map-append}
use Rattle.std.proofs.lemmas.List.Elements.{filter-append}
use Rattle.proto_wire.specs.declared.fault.WireFault.{WireFault}
use Rattle.typed_values.specs.declared.name.TypeName.{TypeName}
use Rattle.typed_values.specs.declared.address.Address.{Address}
use Rattle.typed_values.specs.declared.value.TypedValue.{TypedValue}
use Rattle.typed_values.specs.declared.record.EgressRecord.{EgressRecord}
use Rattle.typed_values.specs.declared.cells.Cell.{Cell}
use Rattle.typed_values.specs.Delays.{due_at}
use Rattle.sf_outside.specs.declared.ingress.IngressRecord.{IngressRecord}
use Rattle.sf_outside.specs.Splits.{Lists}
use Rattle.request_reply.specs.declared.answer.FromFunction.{FromFunction}
use Rattle.request_reply.specs.declared.answer.FromFunction.TheVariants as answers
use Rattle.request_reply.specs.declared.flaw.Flaw.{Flaw}
use Rattle.request_reply.specs.declared.judging.Judgement.TheVariants as judgements
use Rattle.request_reply.specs.Flaws.{answer_flaw, wire_flaw, too_long}
use Rattle.request_reply.specs.Valid.{asked, unless, read_verdict, verdict}
use Rattle.request_reply.specs.Spelling.{from_value}
use Rattle.address_routing.specs.declared.module.Module.{Module}
use Rattle.address_routing.specs.Routing.{splits_in}
use Rattle.invocation.specs.declared.judging.Judged.{Judged}
use Rattle.invocation.specs.declared.judging.Judged.TheVariants as judged_as
use Rattle.invocation.specs.Effects.{effects_of}
use Rattle.invocation.specs.Judging.{setting_of, done_by, judgement}
use Rattle.run_record.specs.declared.entry.Entry.{Entry}
use Rattle.run_record.specs.declared.entry.Step.{Step}
use Rattle.run_record.specs.declared.entry.Step.TheVariants.{Take, Batch, Register, Due}
use Rattle.run_record.specs.declared.entry.Reply.{Reply}
use Rattle.run_record.specs.Machine.{Own, State, Act, actor_of, reply_of, arguments_at, is_between, took, sent_later, judged, batch_act, register_act, act_of, acted}
use Rattle.run_record.specs.Record.{next_record, replayed}
use Rattle.run_record.specs.Egress.{records_spelled, records_of_reply, egress_of}
use Rattle.run_record.proofs.Steps.{made-some, some_from_map}
use Rattle.run_record.proofs.LawsOfOwn.{first_of}

-- what an answer gives to egresses, by what it is judged to be
egress_judged : Judged → List EgressRecord
egress_judged (judged_as.Accept effects) = effects.egress
egress_judged (judged_as.Register specs) = []
egress_judged (judged_as.Flaw flaw) = []

-- whether it is valid
is_valid : Judged → Type 0
is_valid (judged_as.Accept effects) = Unit {0}
is_valid (judged_as.Register specs) = Unit {0}
is_valid (judged_as.Flaw flaw) = ⊥

spelled : (m : Module) (cells : List Cell) (address : Address) (moment : ℕ) (answer : List ℕ) → is_valid (judgement m cells address moment answer) → records_spelled address (from_value answer) ≡ egress_judged (judgement m cells address moment answer)
unfolding judgement verdict read_verdict effects_of egress_judged is_valid
spelled m cells address moment answer = by_length (nat_lt 4194304 (length answer)) (from_value answer)
  where
    by_flaw : (o : Option Flaw) (read : FromFunction) → is_valid (done_by address moment (unless o (asked (setting_of m cells) read))) → records_spelled address (Ok read) ≡ egress_judged (done_by address moment (unless o (asked (setting_of m cells) read)))
    by_flaw None (answers.Result response) valid = refl
    by_flaw None (answers.Incomplete context) valid = refl
    by_flaw (Some flaw) read valid = absurd valid

    by_length : (long : Bool) (read : Result FromFunction WireFault) → is_valid (done_by address moment (cond long (judgements.Flaw (wire_flaw too_long)) (read_verdict (setting_of m cells) read))) → records_spelled address read ≡ egress_judged (done_by address moment (cond long (judgements.Flaw (wire_flaw too_long)) (read_verdict (setting_of m cells) read)))
    by_length true read valid = absurd valid
    by_length false (Err fault) valid = absurd valid
    by_length false (Ok read) valid = by_flaw (answer_flaw (setting_of m cells) read) read valid

batch_egress : (m : Module) (own : Own) (reply : Reply) (act : Act) → batch_act reply (judged m own reply) own ≡ Some act → act.egress ≡ records_of_reply reply
unfolding egress_judged is_valid
batch_egress m own reply act e = by (judged m own reply) (spelled m own.cells reply.address reply.moment reply.answer) e
  where
    by : (j : Judged) → (is_valid j → records_of_reply reply ≡ egress_judged j) → batch_act reply j own ≡ Some act → act.egress ≡ records_of_reply reply
    by (judged_as.Accept effects) is f = sym (ap (λ (o : Option Act). option_map_or (λ (a : Act). a.egress) o []) f) ∙ sym (is tt)
    by (judged_as.Register specs) is f = absurd cc
    by (judged_as.Flaw flaw) is f = absurd cc

register_egress : (m : Module) (own : Own) (reply : Reply) (act : Act) → register_act reply (judged m own reply) own ≡ Some act → act.egress ≡ records_of_reply reply
unfolding egress_judged is_valid
register_egress m own reply act e = by (judged m own reply) (spelled m own.cells reply.address reply.moment reply.answer) e
  where
    by : (j : Judged) → (is_valid j → records_of_reply reply ≡ egress_judged j) → register_act reply j own ≡ Some act → act.egress ≡ records_of_reply reply
    by (judged_as.Accept effects) is f = absurd cc
    by (judged_as.Register specs) is f = sym (ap (λ (o : Option Act). option_map_or (λ (a : Act). a.egress) o []) f) ∙ sym (is tt)
    by (judged_as.Flaw flaw) is f = absurd cc

-- a step gives what its answer spells
act_egress : (m : Module) (found : Option IngressRecord) (own : Own) (step : Step) (act : Act) → act_of m found own step ≡ Some act → act.egress ≡ option_map_or records_of_reply (reply_of step) []
act_egress m found own (Take split) act h = by (nat_lt split (splits_in m.ingresses)) h
  where
    by : (b : Bool) → cond b (option_map (took m split own) found) None ≡ Some act → act.egress ≡ []
    by true e = ap (λ (a : Act). a.egress) (some_from_map (took m split own) found act e).2
    by false e = absurd cc
act_egress m found own (Batch reply) act h = batch_egress m own reply act h
act_egress m found own (Register reply) act h = register_egress m own reply act h
act_egress m found own (Due address moment) act h = ap (λ (a : Act). a.egress) (some_from_map (sent_later address moment own) (due_at moment own.delays) act h).2

arguments_at-append : (address : Address) (name : TypeName) (records others : List EgressRecord) → arguments_at address name (records ++ others) ≡ arguments_at address name records ++ arguments_at address name others
unfolding arguments_at
arguments_at-append address name records others =
    ap (map (λ (r : EgressRecord). r.argument)) (filter-append (is_between address name) records others)
    ∙ map-append (λ (r : EgressRecord). r.argument) (filter (is_between address name) records) (filter (is_between address name) others)

none_at : (address : Address) (name : TypeName) (xs : List TypedValue) → xs ++ arguments_at address name [] ≡ xs
unfolding arguments_at
none_at address name xs = append-nil xs

pub egress-is : (m : Module) (lists : Lists) (st last : State) (entries : List Entry) → replayed m lists st entries ≡ Some last → (address : Address) (name : TypeName) → last.egress address name ≡ st.egress address name ++ arguments_at address name (egress_of entries)
unfolding egress_of
egress-is m lists st last [] h address name = ap (λ (x : State). x.egress address name) (sym (same_Some st last h)) ∙ sym (none_at address name (st.egress address name))
egress-is m lists st last (entry ∷ entries) h address name =
    let first = first_of m lists st last entry entries h in
    let next = acted entry.step first.act st in
    let found = next_record lists (actor_of entry.step) (st.own (actor_of entry.step)) in
    let is = made-some m found st entry.step first.act first.does in
    let mine = option_map_or records_of_reply (reply_of entry.step) [] in
    egress-is m lists next last entries first.more address name
    ∙ ap (λ xs. (st.egress address name ++ arguments_at address name xs) ++ arguments_at address name (egress_of entries)) (act_egress m found (st.own (actor_of entry.step)) entry.step first.act is.does)
    ∙ append_assoc (st.egress address name) (arguments_at address name mine) (arguments_at address name (egress_of entries))
    ∙ ap (λ xs. st.egress address name ++ xs) (sym (arguments_at-append address name mine (egress_of entries)))
