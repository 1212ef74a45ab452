-- The record of a run replays to what the turns left.
use mathlib.Core.Path.{fun_ext}
use Rattle.std.proofs.Common.{◌≡◌, ◌∙◌, refl, sym, ap, ℕ, ◌+◌, List, [], ◌++◌, Bool, true, false, cond, Option, Some, None, option_map, option_and_then}
use Rattle.typed_values.specs.declared.name.TypeName.{TypeName}
use Rattle.typed_values.specs.declared.address.Address.{Address}
use Rattle.typed_values.specs.declared.value.TypedValue.{TypedValue}
use Rattle.typed_values.specs.declared.letter.Letter.{Letter}
use Rattle.typed_values.specs.declared.letter.Sender.{Sender}
use Rattle.typed_values.specs.declared.letter.Sender.TheVariants.{Split, Function}
use Rattle.typed_values.specs.declared.record.EgressRecord.{EgressRecord}
use Rattle.typed_values.specs.Sameness.{same_address}
use Rattle.typed_values.proofs.Sameness.{same_address-Decides}
use Rattle.sf_outside.specs.Splits.{Lists, record_at}
use Rattle.sf_outside.specs.declared.ingress.IngressRecord.{IngressRecord}
use Rattle.address_routing.specs.declared.module.Module.{Module}
use Rattle.run_record.specs.declared.entry.Entry.{Entry}
use Rattle.run_record.specs.declared.entry.Step.{Step}
use Rattle.run_record.specs.declared.entry.Step.TheVariants as step
use Rattle.run_record.specs.Machine.{State, Act, nothing, first_state, actor_of, arguments_of, arguments_at, took, served, declared, sent_later, acted, step_with}
use Rattle.run_record.specs.Record.{next_record, replayed}
use Rattle.run_record.specs.Egress.{egress_of}
use Rattle.run_record.proofs.LawsOfEgress.{egress-is}
use Rattle.run_record.proofs.Steps.{some_from_and_then, replayed-append, replayed_push_on}
use Rattle.partition_core.specs.Batches.{opened_at}
use Rattle.partition_core.specs.Work.{Work, no_work, own_in, mail_in, state_of}
use Rattle.statefun_driver.specs.Seen.{Event}
use Rattle.statefun_driver.specs.Turns.{Plan, Control, Origin, Reading, Waiting, no_origin, begun, entry_of, recorded, own_now, reply_to, read_from, take_record}
use Rattle.statefun_driver.specs.Origins.{IsHeld}
use Rattle.statefun_driver.specs.Traces.{IsFront}
use Rattle.statefun_driver.specs.Runs.{IsRead}
use Rattle.statefun_driver.specs.Stretches.{base_of, ReplaysBehind}
use Rattle.statefun_driver.proofs.Moving.{Moved, BrokeOff, ReadNone, ReadLarge, Took, SawMoment, Began, PolledNone, FailedBy, Accepts, Misses, missed}
use Rattle.statefun_driver.proofs.Standing.{Laws, IsSound, Makes, makes_take, makes_due, makes_batch, makes_register, held_recorded, stands_in, later}
use Rattle.statefun_driver.proofs.Ways.{Silent, Phased, Opened, Marked, Sent, Thens, silent_open, silent_read, silent_read_on}

-- what was given to egresses so far comes along
pub record IsReplayed (m : Module) (told : Lists) (base : State) (counts : ℕ → ℕ) (work : Work) (entries : List Entry) : Type 0 where
  pub given : List EgressRecord
  pub is : replayed m told base entries ≡ Some (state_of counts given work)

-- ---- one step

pub replays_recorded : (laws : Laws) (m : Module) (told : Lists) (base : State) (found : Option IngressRecord) (s : Step) (act : Act) (c : Control) → Makes m found s act c → next_record told (actor_of s) (own_in c.counts c.work (actor_of s)) ≡ found
    → IsHeld c.work c.moment → IsReplayed m told base c.counts c.work c.entries → IsReplayed m told base (recorded m s act c).counts (recorded m s act c).work (recorded m s act c).entries
unfolding recorded state_of
replays_recorded laws m told base found s act c makes next held h =
    let st = state_of c.counts h.given c.work in
    record {
      given = h.given ++ act.egress;
      is =
          replayed_push_on m told base st c.entries (entry_of m c s) h.is
          ∙ ap (λ (o : Option IngressRecord). step_with m o st s) next
          ∙ ap (option_map (λ (a : Act). acted s a st)) (makes.does h.given)
          ∙ ap Some (laws.machine m found c.counts h.given c.work s act (makes.does h.given) held.owned makes.turn).0;
    }

-- ---- letters in flight are still there

state_opened : (counts : ℕ → ℕ) (given : List EgressRecord) (address : Address) (batch : List Letter) (work : Work) → state_of counts given work ≡ state_of counts given (opened_at address batch work)
unfolding state_of
state_opened counts given address batch work =
    λ i. record { own = owns i; mail = λ sender target. arguments_of sender target (letters i target); egress = λ a name. arguments_at a name given }
  where
    own_same : (actor : Sender) → own_in counts work actor ≡ own_in counts (opened_at address batch work) actor
    own_same (Split split) = refl
    own_same (Function a) = refl

    owns : own_in counts work ≡ own_in counts (opened_at address batch work)
    owns = fun_ext own_same

    letter_same : (target : Address) (t : Bool) → same_address address target ≡ t → work.post.letters target ≡ cond t (work.post.letters address) (work.post.letters target)
    letter_same target true e = ap work.post.letters (sym ((same_address-Decides address target).0 e))
    letter_same target false e = refl

    letters : work.post.letters ≡ (opened_at address batch work).post.letters
    letters = fun_ext (λ target. letter_same target (same_address address target) refl)

replays_opened : (m : Module) (told : Lists) (base : State) (counts : ℕ → ℕ) (address : Address) (batch : List Letter) (work : Work) (entries : List Entry) → IsReplayed m told base counts work entries → IsReplayed m told base counts (opened_at address batch work) entries
replays_opened m told base counts address batch work entries h = record { given = h.given; is = h.is ∙ ap Some (state_opened counts h.given address batch work) }

pub replays_silent : (laws : Laws) (plan : Plan) (told : Lists) (base : State) (a b : Control) → Silent plan a b → IsReplayed plan.routes told base a.counts a.work a.entries → IsReplayed plan.routes told base b.counts b.work b.entries
replays_silent laws plan told base _ _ (Phased c phase) h = h
replays_silent laws plan told base _ _ (Opened c address batch phase) h = replays_opened plan.routes told base c.counts address batch c.work c.entries h
replays_silent laws plan told base _ _ (Marked c) h = h
replays_silent laws plan told base _ _ (Sent c due e held) h =
    replays_recorded laws plan.routes told base None (step.Due due.0.sender c.moment) (sent_later due.0.sender c.moment (own_now c (Function due.0.sender)) due) c (makes_due laws plan.routes due c e held) refl held h
replays_silent laws plan told base _ _ (Thens x b c s t) h = replays_silent laws plan told base b c t (replays_silent laws plan told base x b s h)

-- ---- one event

-- a record that was read is the next of its split
pub next_read : (told : Lists) (split offset : ℕ) (found : IngressRecord) (c : Control) → offset ≡ c.counts split → record_at told split offset ≡ Some found → next_record told (Split split) (own_in c.counts c.work (Split split)) ≡ Some found
next_read told split offset found c is r = ap (record_at told split) (sym is) ∙ r

module _ (laws : Laws) (plan : Plan) (told : Lists) (base : State) where
  abbrev Replayed : Control → Type 0
  Replayed c = IsReplayed plan.routes told base c.counts c.work c.entries

  pub replays_take : (split offset count : ℕ) (found : IngressRecord) (c : Control) → IsSound plan c → c.phase ≡ Reading split count → offset ≡ c.counts split → record_at told split offset ≡ Some found → Replayed c → Replayed (take_record plan.routes split found c)
  replays_take split offset count found c s e is r h =
      replays_recorded laws plan.routes told base (Some found) (step.Take split) (took plan.routes split (own_now c (Split split)) found) c
      (makes_take plan.routes split found c (stands_in plan c (Reading split count) e s.stands)) (next_read told split offset found c is r) s.held h

  pub replays_event : (c : Control) (event : Event) (d : Control) → IsSound plan c → IsRead told event → Moved plan c event d → Replayed c → Replayed d
  replays_event c _ _ s r (BrokeOff by) h = h
  replays_event c _ _ s r (ReadNone split count offset e is) h = replays_silent laws plan told base c (read_from plan (split + 1) c) (silent_read laws plan (split + 1) c s.held) h
  replays_event c _ _ s r (ReadLarge split count offset found e large) h = h
  replays_event c _ _ s r (Took split count offset found e is) h =
      let next = take_record plan.routes split found c in
      let held = held_recorded laws plan.routes (Some found) (step.Take split) (took plan.routes split (own_now c (Split split)) found) c (makes_take plan.routes split found c (stands_in plan c (Reading split count) e s.stands)) s.held in
      replays_silent laws plan told base next _ (silent_read_on laws plan split (count + 1) next held) (replays_take split offset count found c s e is r h)
  replays_event c _ _ s r (SawMoment moment e) h =
      let now = begun moment c in
      replays_silent laws plan told base now (read_from plan 0 now) (silent_read laws plan 0 now (later c.moment moment c.work s.held)) h
  replays_event c _ _ s r (Began batch url request e place is) h = h
  replays_event c _ _ s r (PolledNone batch call k outcome e) h = h
  replays_event c _ _ s r (FailedBy batch call k outcome why e is late) h = h
  replays_event c _ _ s r (Accepts batch call k outcome answer effects e own is) h =
      let f = stands_in plan c (Waiting batch call k) e s.stands in
      let reply = reply_to batch call c answer in
      replays_recorded laws plan.routes told base None (step.Batch reply) (served reply effects (own_now c (Function batch.address))) c (makes_batch laws plan batch call c answer effects f s.held is) refl s.held h
  replays_event c _ _ s r (Misses batch call k outcome answer specs e own is) h =
      let f = stands_in plan c (Waiting batch call k) e s.stands in
      let reply = reply_to batch call c answer in
      let next = missed plan batch call answer specs c in
      replays_silent laws plan told base next _ (silent_open plan batch.address _ next)
      (replays_recorded laws plan.routes told base None (step.Register reply) (declared reply specs (own_now c (Function batch.address))) c (makes_register laws plan batch call c answer specs f s.held is) refl s.held h)

-- ---- from the beginning

pub state_first : first_state ≡ base_of no_origin
unfolding state_of arguments_of arguments_at
state_first = λ i. record { own = owns i; mail = λ sender target. []; egress = λ address name. [] }
  where
    own_same : (actor : Sender) → nothing ≡ own_in (λ split. 0) no_work actor
    own_same (Split split) = refl
    own_same (Function address) = refl

    owns : (λ (actor : Sender). nothing) ≡ own_in (λ split. 0) no_work
    owns = fun_ext own_same

pub replays_first : (m : Module) (told : Lists) (start : Origin) → IsReplayed m told (base_of start) start.counts start.work []
replays_first m told start = record { given = []; is = refl }

-- ---- what was given is what the answers spell

state_given : (counts : ℕ → ℕ) (given others : List EgressRecord) (work : Work) → ((address : Address) (name : TypeName) → (state_of counts given work).egress address name ≡ arguments_at address name others) → state_of counts given work ≡ state_of counts others work
unfolding state_of
state_given counts given others work e = λ i. record { own = own_in counts work; mail = mail_in work; egress = λ address name. e address name i }

none_given : (start : Origin) (address : Address) (name : TypeName) → (base_of start).egress address name ≡ []
unfolding state_of arguments_at
none_given start address name = refl

pub replays_given : (m : Module) (told : Lists) (start : Origin) (last : Control) → IsReplayed m told (base_of start) last.counts last.work last.entries → ReplaysBehind m told start last
replays_given m told start last h =
    h.is
    ∙ ap Some (state_given last.counts h.given (egress_of last.entries) last.work (λ address name.
    egress-is m told (base_of start) (state_of last.counts h.given last.work) last.entries h.is address name
    ∙ ap (λ (xs : List TypedValue). xs ++ arguments_at address name (egress_of last.entries)) (none_given start address name)))

-- ---- a front of the record

pub front_replays : (m : Module) (told : Lists) (start : Origin) (last : Control) (entries : List Entry) → IsFront entries last.entries → ReplaysBehind m told start last → (st : State) × (replayed m told (base_of start) entries ≡ Some st)
front_replays m told start last entries front h =
    let end = state_of last.counts (egress_of last.entries) last.work in
    let whole : option_and_then (λ next. replayed m told next front.0) (replayed m told (base_of start) entries) ≡ Some end =
    sym (replayed-append m told (base_of start) entries front.0) ∙ ap (replayed m told (base_of start)) (sym front.1) ∙ h in
    let got = some_from_and_then (λ next. replayed m told next front.0) (replayed m told (base_of start) entries) end whole in
    (got.0, got.1)
