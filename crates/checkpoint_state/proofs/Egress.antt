-- No step looks at egress.
use Rattle.std.proofs.Common.{◌≡◌, ◌∙◌, sym, ap, refl, subst, ℕ, List, [], ◌∷◌, ◌++◌, Option, Some, None, option_map, option_and_then, append_assoc, append-nil}
use Rattle.std.specs.Prelude.{IfSome}
use Rattle.typed_values.specs.declared.name.TypeName.{TypeName}
use Rattle.typed_values.specs.declared.address.Address.{Address}
use Rattle.typed_values.specs.declared.value.TypedValue.{TypedValue}
use Rattle.typed_values.specs.declared.record.EgressRecord.{EgressRecord}
use Rattle.sf_outside.specs.declared.call.Exchange.{Exchange}
use Rattle.sf_outside.specs.declared.ingress.IngressRecord.{IngressRecord}
use Rattle.sf_outside.specs.Splits.{Lists}
use Rattle.address_routing.specs.declared.module.Module.{Module}
use Rattle.run_record.specs.declared.entry.Entry.{Entry}
use Rattle.run_record.specs.declared.entry.Reply.{Reply}
use Rattle.run_record.specs.declared.entry.Step.{Step}
use Rattle.run_record.specs.Machine.{State, Act, first_state, arguments_at, actor_of, reply_of, acted, made, step_with}
use Rattle.run_record.specs.Record.{next_record, step_after, replayed}
use Rattle.run_record.specs.Backed.{IsBackedReply, AreBacked}
use Rattle.run_record.specs.Egress.{egress_of}
use Rattle.run_record.proofs.Backing.{AreBacked-more, AreBacked-grown, AreBacked-append}
use Rattle.run_record.proofs.Steps.{replayed-grown}
use Rattle.partition_core.specs.Work.{Work, state_of}
use Rattle.folder_form.specs.Folders.{record_of}
use Rattle.checkpoint_state.specs.Meaning.{given_by, state_in, IsSound}
use Rattle.checkpoint_state.specs.Laws.{given_before, EgressChangesNoStep, WorkLeadsOn, EgressBacksNoStep, BackingGrows, NextIsBacked, EntriesLeadToTheNext}
use Rattle.checkpoint_state.proofs.Stored.{arguments_at-append, given-with, work_is_stored}

abbrev Egress : Type 0
Egress = Address → TypeName → List TypedValue

-- ---- one step

acted-behind : (before : Egress) (st : State) (step : Step) (act : Act) → acted step act (given_before before st) ≡ given_before before (acted step act st)
acted-behind before st step act = λ i. record {
  own = (acted step act st).own;
  mail = (acted step act st).mail;
  egress = λ address name. append_assoc (before address name) (st.egress address name) (arguments_at address name act.egress) i;
}

step-behind : (m : Module) (found : Option IngressRecord) (before : Egress) (st : State) (step : Step) → step_with m found (given_before before st) step ≡ option_map (given_before before) (step_with m found st step)
unfolding made
step-behind m found before st step = by (made m found st step)
  where
    by : (o : Option Act) → option_map (λ act. acted step act (given_before before st)) o ≡ option_map (given_before before) (option_map (λ act. acted step act st) o)
    by None = refl
    by (Some act) = ap Some (acted-behind before st step act)

-- ---- a record

replayed-behind : (m : Module) (told : Lists) (before : Egress) (st : State) (entries : List Entry) → replayed m told (given_before before st) entries ≡ option_map (given_before before) (replayed m told st entries)
replayed-behind m told before st [] = refl
replayed-behind m told before st (entry ∷ entries) =
    ap (option_and_then (λ next. replayed m told next entries)) (step-behind m (next_record told (actor_of entry.step) (st.own (actor_of entry.step))) before st entry.step)
    ∙ by (λ next. replayed-behind m told before next entries) (step_after m told st entry.step)
  where
    by : ((next : State) → replayed m told (given_before before next) entries ≡ option_map (given_before before) (replayed m told next entries)) → (o : Option State) → option_and_then (λ next. replayed m told next entries) (option_map (given_before before) o) ≡ option_map (given_before before) (option_and_then (λ next. replayed m told next entries) o)
    by rest None = refl
    by rest (Some next) = rest next

pub egress_changes_no_step : EgressChangesNoStep
egress_changes_no_step m told before st last entries e = replayed-behind m told before st entries ∙ ap (option_map (given_before before)) e

-- ---- work

work-behind : (counts : ℕ → ℕ) (before given : List EgressRecord) (work : Work) → given_before (λ address name. arguments_at address name before) (state_of counts given work) ≡ state_of counts (before ++ given) work
unfolding state_of
work-behind counts before given work = λ i. record {
  own = (state_of counts given work).own;
  mail = (state_of counts given work).mail;
  egress = λ address name. sym (arguments_at-append address name before given) i;
}

first-behind : (counts : ℕ → ℕ) (before : List EgressRecord) (work : Work) → given_before (λ address name. arguments_at address name before) (state_of counts [] work) ≡ state_of counts before work
first-behind counts before work = work-behind counts before [] work ∙ ap (λ given. state_of counts given work) (append-nil before)

pub work_leads_on : WorkLeadsOn
work_leads_on m told counts after before given work left entries e =
    let egress : Egress = λ address name. arguments_at address name before in
    ap (λ st. replayed m told st entries) (sym (first-behind counts before work))
    ∙ egress_changes_no_step m told egress (state_of counts [] work) (state_of after given left) entries e
    ∙ ap Some (work-behind after before given left)

-- ---- backing

reply-behind : (exchanges : List Exchange) (m : Module) (before : Egress) (st : State) (o : Option Reply) → IfSome o (IsBackedReply exchanges m st) → IfSome o (IsBackedReply exchanges m (given_before before st))
reply-behind exchanges m before st None h = h
reply-behind exchanges m before st (Some reply) h = record { request = h.request; asked = h.asked; url = h.url; at_url = h.at_url; exchanged = h.exchanged }

backed-behind : (exchanges : List Exchange) (m : Module) (told : Lists) (before : Egress) (st : State) (entries : List Entry) → AreBacked exchanges m told st entries → AreBacked exchanges m told (given_before before st) entries
backed-behind exchanges m told before st [] h = h
backed-behind exchanges m told before st (entry ∷ entries) h = (
  reply-behind exchanges m before st (reply_of entry.step) h.0,
  subst (λ o. IfSome o (λ next. AreBacked exchanges m told next entries)) (sym (step-behind m (next_record told (actor_of entry.step) (st.own (actor_of entry.step))) before st entry.step))
      (by (λ next. backed-behind exchanges m told before next entries) (step_after m told st entry.step) h.1),
)
  where
    by : ((next : State) → AreBacked exchanges m told next entries → AreBacked exchanges m told (given_before before next) entries) → (o : Option State) → IfSome o (λ next. AreBacked exchanges m told next entries) → IfSome (option_map (given_before before) o) (λ next. AreBacked exchanges m told next entries)
    by rest None k = k
    by rest (Some next) k = rest next k

pub egress_backs_no_step : EgressBacksNoStep
egress_backs_no_step exchanges m told counts before work entries h =
    subst (λ st. AreBacked exchanges m told st entries) (first-behind counts before work) (backed-behind exchanges m told (λ address name. arguments_at address name before) (state_of counts [] work) entries h)

pub backing_grows : BackingGrows
backing_grows old new m before told st middle entries others more grown backed replays behind =
    let front = AreBacked-grown new m before told st middle entries grown replays (AreBacked-more old new m before st entries more backed) in
    AreBacked-append new m told st entries others front (rw (replayed-grown m before told st middle entries grown replays) behind)

pub next_is_backed : NextIsBacked
next_is_backed old new m before told contents next counts work entries more grown good backed at behind grows =
    let sound : IsSound m before contents = good.each contents.checkpoints [] (sym (append-nil contents.checkpoints)) in
    let here : AreBacked new m told (state_in contents) entries = subst (λ st. AreBacked new m told st entries) (sym at) (egress_backs_no_step new m told counts (given_by contents) work entries behind) in
    subst (λ es. AreBacked new m told first_state es) (sym grows) (backing_grows old new m before told first_state (state_in contents) (record_of contents) entries more grown backed sound.replays here)

-- ---- from one checkpoint to the next

pub entries_lead : EntriesLeadToTheNext
entries_lead m told contents counts after work left entries mark part at leads of gave =
    let kept = work_is_stored contents mark part after left of in (
      ap (λ st. replayed m told st entries) at
          ∙ work_leads_on m told counts after (given_by contents) (egress_of entries) work left entries leads
          ∙ ap (λ records. Some (state_of after (given_by contents ++ records) left)) (sym gave)
          ∙ ap Some (sym kept),
      kept ∙ ap (λ records. state_of after records left) (sym (given-with mark part contents)),
    )
