-- Each answer of a record is one that was given to its request.
use Rattle.std.proofs.Common.{◌≡◌, ◌∙◌, refl, sym, ap, subst, ℕ, ◌+◌, ◌≤◌, List, [], ◌∷◌, ◌++◌, length, append-nil, Bool, true, false, cond, ◌⊎◌, inl, inr, Option, Some, None, arith, nat_lt}
use Rattle.std.specs.Prelude.{Contains, IfSome}
use Rattle.std.proofs.lemmas.List.Elements.{Contains-push_cases}
use Rattle.sf_outside.specs.Told.{more}
use Rattle.sf_outside.specs.Splits.{Lists}
use Rattle.sf_outside.specs.Answers.{Extends, Extends-none, IsExchanged, IsAnswered, IsAnswerOf}
use Rattle.sf_outside.specs.declared.call.Call.{Call}
use Rattle.sf_outside.specs.declared.call.Outcome.{Outcome}
use Rattle.sf_outside.specs.declared.call.Answered.{Answered}
use Rattle.sf_outside.specs.declared.call.Answered.TheVariants as tells
use Rattle.sf_outside.specs.declared.call.LinkEvent.{LinkEvent}
use Rattle.sf_outside.specs.declared.call.LinkEvent.TheVariants.{Started, Polled}
use Rattle.sf_outside.specs.declared.call.Exchange.{Exchange}
use Rattle.typed_values.specs.declared.letter.Letter.{Letter}
use Rattle.typed_values.specs.declared.letter.Sender.TheVariants.{Split, Function}
use Rattle.typed_values.specs.declared.record.EgressRecord.{EgressRecord}
use Rattle.address_routing.specs.declared.module.Module.{Module}
use Rattle.address_routing.specs.Routing.{url_of}
use Rattle.invocation.specs.Requests.{request_of}
use Rattle.run_record.specs.declared.entry.Entry.{Entry}
use Rattle.run_record.specs.declared.entry.Step.{Step}
use Rattle.run_record.specs.declared.entry.Step.TheVariants as step
use Rattle.run_record.specs.declared.entry.Reply.{Reply}
use Rattle.run_record.specs.Machine.{State, Act, reply_of, took, served, declared, sent_later}
use Rattle.run_record.specs.Record.{step_after}
use Rattle.run_record.specs.Backed.{IsBackedReply, AreBacked, same_call}
use Rattle.run_record.proofs.Backing.{AreBacked-more, AreBacked-push}
use Rattle.partition_core.specs.Batches.{request_bytes, opened_at}
use Rattle.partition_core.specs.Work.{Work, state_of}
use Rattle.statefun_driver.specs.declared.end.End.{End}
use Rattle.statefun_driver.specs.declared.end.End.TheVariants.{TurnsSpent, EndpointFailed, RecordTooLarge, Broke}
use Rattle.statefun_driver.specs.Seen.{Event, Read, Now, Start, Poll, Fails, Seen, Hears, HearsPoll}
use Rattle.statefun_driver.specs.Turns.{Plan, Control, Phase, Reading, Asking, Opening, Waiting, Stopped, Asked, Origin, first_control, rested as at_rest, goes_on_behind, begun, at, entry_of, recorded, own_now, call_of, own_part, reply_to}
use Rattle.statefun_driver.specs.Turns.{taken_in, size_of, read_from, read_on, take_record, finish_phase, finish, open_batch, with_reason, attempts_at, tried_phase}
use Rattle.statefun_driver.specs.Runs.{link_part, IsRead}
use Rattle.statefun_driver.specs.Stretches.{base_of, AreUpTo, IsBackedBehind}
use Rattle.statefun_driver.specs.Origins.{IsHeld}
use Rattle.statefun_driver.proofs.Moving.{Moved, BrokeOff, ReadNone, ReadLarge, Took, SawMoment, Began, PolledNone, FailedBy, Accepts, Misses, accepted, missed}
use Rattle.statefun_driver.proofs.Journal.{journal_one}
use Rattle.statefun_driver.proofs.Apart.{IsBefore, IsBeforeIn, at_most, same_call_is, not_next, later_call, rests, ends, before_in, silent_later}
use Rattle.statefun_driver.proofs.Resting.{Rests, rest_finish, rest_open, rest_read, rest_read_on}
use Rattle.statefun_driver.proofs.Standing.{Laws, IsFlying, IsSound, answer_asked, makes_take, makes_batch, makes_register, held_recorded, stands_in, later}
use Rattle.statefun_driver.proofs.Ways.{Silent, Phased, Opened, Marked, Sent, Thens, silent_open, silent_read, silent_read_on}
use Rattle.statefun_driver.proofs.Replays.{IsReplayed, replays_first, replays_silent, replays_recorded, replays_take}

-- ---- what is known of a record

pub record IsAnsweredFor (m : Module) (told : Lists) (base : State) (exchanges : List Exchange) (counts : ℕ → ℕ) (work : Work) (entries : List Entry) : Type 0 where
  pub replays : IsReplayed m told base counts work entries
  pub backed : AreBacked exchanges m told base entries

abbrev pub AreAnswered : Module → Lists → State → List Exchange → Control → Type 0
AreAnswered m told base exchanges c = IsAnsweredFor m told base exchanges c.counts c.work c.entries

answers_more : (m : Module) (told : Lists) (base : State) (xs ys : List Exchange) (c : Control) → Extends xs ys → AreAnswered m told base xs c → AreAnswered m told base ys c
answers_more m told base xs ys c e h = record { replays = h.replays; backed = AreBacked-more xs ys m told base c.entries e h.backed }

-- a step that is made of no answer
answers_plain : (m : Module) (told : Lists) (base : State) (xs : List Exchange) (s : Step) (act : Act) (c : Control) → reply_of s ≡ None → IsReplayed m told base (recorded m s act c).counts (recorded m s act c).work (recorded m s act c).entries → AreAnswered m told base xs c → AreAnswered m told base xs (recorded m s act c)
unfolding recorded
answers_plain m told base xs s act c none r h = record {
  replays = r;
  backed = AreBacked-push xs m told base (state_of c.counts (h.replays).given c.work) c.entries (entry_of m c s) h.backed (h.replays).is
      (subst (λ (o : Option Reply). IfSome o (IsBackedReply xs m (state_of c.counts (h.replays).given c.work))) (sym none) tt);
}

-- a step that is made of an answer
answers_reply : (m : Module) (told : Lists) (base : State) (xs : List Exchange) (s : Step) (reply : Reply) (act : Act) (c : Control) → reply_of s ≡ Some reply
    → ((given : List EgressRecord) → IsBackedReply xs m (state_of c.counts given c.work) reply)
    → IsReplayed m told base (recorded m s act c).counts (recorded m s act c).work (recorded m s act c).entries → AreAnswered m told base xs c → AreAnswered m told base xs (recorded m s act c)
unfolding recorded
answers_reply m told base xs s reply act c some back r h = record {
  replays = r;
  backed = AreBacked-push xs m told base (state_of c.counts (h.replays).given c.work) c.entries (entry_of m c s) h.backed (h.replays).is
      (subst (λ (o : Option Reply). IfSome o (IsBackedReply xs m (state_of c.counts (h.replays).given c.work))) (sym some) (back (h.replays).given));
}

-- ---- where the turns go by themselves

answers_silent : (laws : Laws) (plan : Plan) (told : Lists) (base : State) (xs : List Exchange) (a b : Control) → Silent plan a b → AreAnswered plan.routes told base xs a → AreAnswered plan.routes told base xs b
answers_silent laws plan told base xs _ _ (Phased c phase) h = h
answers_silent laws plan told base xs _ _ (Opened c address batch phase) h =
    record { replays = replays_silent laws plan told base c (record c { work = opened_at address batch c.work; phase = phase }) (Opened c address batch phase) h.replays; backed = h.backed }
answers_silent laws plan told base xs _ _ (Marked c) h = h
answers_silent laws plan told base xs _ _ (Sent c due e held) h =
    answers_plain plan.routes told base xs (step.Due due.0.sender c.moment) (sent_later due.0.sender c.moment (own_now c (Function due.0.sender)) due) c refl (replays_silent laws plan told base c _ (Sent c due e held) h.replays) h
answers_silent laws plan told base xs _ _ (Thens x b c s t) h = answers_silent laws plan told base xs b c t (answers_silent laws plan told base xs x b s h)

-- ---- what is known of a call

-- a call that is waited for: whatever was started under it is its request, at its place
abbrev IsOpen : Module → Control → List LinkEvent → Asked → Call → Type 0
IsOpen m c events batch call = (url request : List ℕ) → Contains events (Started call url request)
    → (Some url ≡ url_of m batch.address.kind) × (request ≡ request_bytes batch.address (c.work.cells batch.address) c.moment batch.letters)

abbrev IsOpenIn : Module → Control → List LinkEvent → Phase → Type 0
IsOpenIn m c events (Waiting batch call polls) = IsOpen m c events batch call
IsOpenIn m c events phase = Unit {0}

abbrev AreFresh : Control → List LinkEvent → Type 0
AreFresh c events = (call : Call) (url request : List ℕ) → Contains events (Started call url request) → IsBeforeIn c.phase c call

pub record Known (m : Module) (told : Lists) (base : State) (c : Control) (o : Seen) (events : List LinkEvent) : Type 0 where
  pub journal : o.journal ≡ Some events
  pub fresh : AreFresh c events
  pub waits : IsOpenIn m c events c.phase
  pub answers : AreAnswered m told base o.exchanges c

-- ---- the journal

abbrev is_start : Event → Bool
is_start (Start call url request) = true
is_start event = false

polled_not : (outcome : Option Outcome) (call : Call) (url request : List ℕ) → Polled outcome ≡ Started call url request → ⊥
polled_not outcome call url request h = cc

old_of : (events : List LinkEvent) (outcome : Option Outcome) (call : Call) (url request : List ℕ) → Contains events (Started call url request) ⊎ (Polled outcome ≡ Started call url request) → Contains events (Started call url request)
old_of events outcome call url request (inl x) = x
old_of events outcome call url request (inr e) = absurd (polled_not outcome call url request e)

-- only a start is a start
starts_old : (event : Event) (events : List LinkEvent) (call : Call) (url request : List ℕ) → is_start event ≡ false → Contains (events ++ link_part event) (Started call url request) → Contains events (Started call url request)
starts_old (Read split offset found) events call url request h k = subst (λ (x : List LinkEvent). Contains x (Started call url request)) (append-nil events) k
starts_old (Now moment) events call url request h k = subst (λ (x : List LinkEvent). Contains x (Started call url request)) (append-nil events) k
starts_old (Fails by) events call url request h k = subst (λ (x : List LinkEvent). Contains x (Started call url request)) (append-nil events) k
starts_old (Poll outcome) events call url request h k = old_of events outcome call url request (Contains-push_cases events (Polled outcome) (Started call url request) k)
starts_old (Start other to what) events call url request h k = absurd (let x : true ≡ false = h in cc)

journal_more : (event : Event) (o p : Seen) (events : List LinkEvent) → Hears event o p → o.journal ≡ Some events → p.journal ≡ Some (events ++ link_part event)
journal_more event o p events h e = journal_one event o p h ∙ ap (λ (x : Option (List LinkEvent)). more x (link_part event)) e

same_exchanges : (o p : Seen) → p.exchanges ≡ o.exchanges → Extends o.exchanges p.exchanges
same_exchanges o p e = subst (Extends o.exchanges) (sym e) (Extends-none o.exchanges)

extends : (event : Event) (o p : Seen) → Hears event o p → Extends o.exchanges p.exchanges
extends (Read split offset found) o p h = same_exchanges o p (ap (λ (x : Seen). x.exchanges) h.others)
extends (Now moment) o p h = same_exchanges o p (ap (λ (x : Seen). x.exchanges) h.others)
extends (Start call url request) o p h = h.exchanges
extends (Poll outcome) o p h = h.exchanges
extends (Fails by) o p h = h.exchanges

-- ---- one event

-- one that starts no call
quiet : (m : Module) (told : Lists) (base : State) (c d : Control) (o p : Seen) (event : Event) (events : List LinkEvent) → Known m told base c o events → Hears event o p → is_start event ≡ false → ((call : Call) → IsBeforeIn c.phase c call → IsBeforeIn d.phase d call) → IsOpenIn m d (events ++ link_part event) d.phase
    → AreAnswered m told base p.exchanges d → Known m told base d p (events ++ link_part event)
quiet m told base c d o p event events h heard s later opened answers = record {
  journal = journal_more event o p events heard h.journal;
  fresh = λ call url request x. later call (h.fresh call url request (starts_old event events call url request s x));
  waits = opened;
  answers = answers;
}

-- a phase in which no call is waited for
abbrev Rested : Module → List LinkEvent → Phase → Type 0
Rested m events phase = (c : Control) → IsOpenIn m c events phase

rested : (m : Module) (events : List LinkEvent) → Rests (Rested m events)
rested m events = record { asking = λ c. tt; reading = λ split count c. tt; opening = λ batch c. tt; done = λ taken c. tt; spent = λ taken c. tt; large = λ address size limit c. tt }

tried_rested : (m : Module) (events : List LinkEvent) (batch : Asked) (t : Bool) → Rested m events (cond t (Opening batch) (Stopped (EndpointFailed batch.address batch.reasons)))
tried_rested m events batch true c = tt
tried_rested m events batch false c = tt

-- what is known of the call that is waited for
open_in : (m : Module) (told : Lists) (base : State) (c : Control) (o : Seen) (events : List LinkEvent) (batch : Asked) (call : Call) (k : ℕ) → Known m told base c o events → c.phase ≡ Waiting batch call k → IsOpen m c events batch call
open_in m told base c o events batch call k h e = subst (λ (x : Phase). IsOpenIn m c events x) e h.waits

-- ---- an answer

pub record IsOwn (call : Call) (outcome : Option Outcome) (what : Answered) : Type 0 where
  pub own : Outcome
  pub is : outcome ≡ Some own
  pub same : same_call own.call call ≡ true
  pub told : own.what ≡ what

own_by : (call : Call) (outcome : Option Outcome) (what : Answered) → own_part call outcome ≡ Some what → IsOwn call outcome what
own_by call None what e = absurd cc
own_by call (Some own) what e = by (same_call own.call call) refl e
  where
    by : (t : Bool) → same_call own.call call ≡ t → cond t (Some own.what) None ≡ Some what → IsOwn call (Some own) what
    by true same f = record { own = own; is = refl; same = same; told = cc }
    by false same f = absurd cc

exchanged : (o p : Seen) (events : List LinkEvent) (call : Call) (outcome : Option Outcome) (answer : List ℕ) → o.journal ≡ Some events → HearsPoll outcome o p → (own : IsOwn call outcome (tells.Answer answer)) → IsExchanged events p.exchanges own.own answer
exchanged o p events call outcome answer journal heard own =
    let at_journal : IsAnswered (Some events) p.exchanges outcome = subst (λ (j : Option (List LinkEvent)). IsAnswered j p.exchanges outcome) journal heard.answered in
    let at_own : IsAnswered (Some events) p.exchanges (Some own.own) = subst (IsAnswered (Some events) p.exchanges) own.is at_journal in
    subst (IsAnswerOf events p.exchanges own.own) own.told at_own

backs : (laws : Laws) (plan : Plan) (c : Control) (o p : Seen) (events : List LinkEvent) (batch : Asked) (call : Call) (outcome : Option Outcome) (answer : List ℕ) → IsFlying plan.routes batch c.work c.moment → IsHeld c.work c.moment
    → o.journal ≡ Some events → HearsPoll outcome o p → own_part call outcome ≡ Some (tells.Answer answer) → IsOpen plan.routes c events batch call
    → (given : List EgressRecord) → IsBackedReply p.exchanges plan.routes (state_of c.counts given c.work) (reply_to batch call c answer)
unfolding state_of
backs laws plan c o p events batch call outcome answer f held journal heard part opened given =
    let own = own_by call outcome (tells.Answer answer) part in
    let made = exchanged o p events call outcome answer journal heard own in
    let exchange = made.exchange in
    let same : exchange.call ≡ call = made.call ∙ same_call_is own.own.call call own.same in
    let start = opened exchange.url exchange.request (subst (λ (x : Call). Contains events (Started x exchange.url exchange.request)) same made.started) in
    record {
      request = request_of batch.address (c.work.cells batch.address) c.moment batch.letters;
      asked = (answer_asked laws plan.routes c batch call answer f held).1 ∙ ap (λ (letters : List Letter). Some (request_of batch.address (c.work.cells batch.address) c.moment letters)) (sym f.letters);
      url = exchange.url;
      at_url = sym start.0;
      exchanged = subst (Contains p.exchanges) (λ i. record { call = same i; url = exchange.url; request = start.1 i; answer = made.answer_is i }) made.made;
    }

-- ---- a start

started_parts : (a b : Call) (x y r s : List ℕ) → Started a x r ≡ Started b y s → (a ≡ b) × (x ≡ y) × (r ≡ s)
started_parts a b x y r s h = (cc, cc, cc)

-- a new call has no start before it
begins : (m : Module) (told : Lists) (base : State) (c : Control) (o p : Seen) (events : List LinkEvent) (batch : Asked) (url request : List ℕ) → Known m told base c o events → c.phase ≡ Opening batch → Hears (Start (call_of c) url request) o p
    → Some url ≡ url_of m batch.address.kind → request ≡ request_bytes batch.address (c.work.cells batch.address) c.moment batch.letters
    → Known m told base (at (Waiting batch (call_of c) 0) (record c { calls = c.calls + 1 })) p (events ++ Started (call_of c) url request ∷ [])
begins m told base c o p events batch url request h e heard place is = record {
  journal = journal_more (Start (call_of c) url request) o p events heard h.journal;
  fresh = λ call to what x. fresh_by call to what (Contains-push_cases events (Started (call_of c) url request) (Started call to what) x);
  waits = λ to what x. own_by_start to what (Contains-push_cases events (Started (call_of c) url request) (Started (call_of c) to what) x);
  answers = answers_more m told base o.exchanges p.exchanges c (extends (Start (call_of c) url request) o p heard) h.answers;
}
  where
    early : (call : Call) (to what : List ℕ) → Contains events (Started call to what) → IsBefore call c.turn c.calls
    early call to what x = before_in c (Opening batch) e call (h.fresh call to what x)

    fresh_by : (call : Call) (to what : List ℕ) → Contains events (Started call to what) ⊎ (Started (call_of c) url request ≡ Started call to what) → IsBefore call c.turn (c.calls + 1)
    fresh_by call to what (inl x) = later_call call c.turn c.calls (early call to what x)
    fresh_by call to what (inr e) = subst (λ (x : Call). IsBefore x c.turn (c.calls + 1)) (started_parts (call_of c) call url to request what e).0 (record { turn_is = omega arith; number_is = λ n. omega arith })

    own_by_start : (to what : List ℕ) → Contains events (Started (call_of c) to what) ⊎ (Started (call_of c) url request ≡ Started (call_of c) to what)
        → (Some to ≡ url_of m batch.address.kind) × (what ≡ request_bytes batch.address (c.work.cells batch.address) c.moment batch.letters)
    own_by_start to what (inl x) = absurd (not_next c (early (call_of c) to what x))
    own_by_start to what (inr e) = let parts = started_parts (call_of c) (call_of c) url to request what e in (ap Some (sym parts.1) ∙ place, sym parts.2 ∙ is)

-- a poll told nothing of the call
told_nothing : (m : Module) (told : Lists) (base : State) (c : Control) (o p : Seen) (events : List LinkEvent) (batch : Asked) (call : Call) (k : ℕ) (outcome : Option Outcome) → Known m told base c o events → Hears (Poll outcome) o p → c.phase ≡ Waiting batch call k
    → Known m told base (at (Waiting batch call (k + 1)) c) p (events ++ Polled outcome ∷ [])
told_nothing m told base c o p events batch call k outcome h heard e =
    let opened = open_in m told base c o events batch call k h e in
    quiet m told base c (at (Waiting batch call (k + 1)) c) o p (Poll outcome) events h heard refl (before_in c (Waiting batch call k) e)
    (λ url request x. opened url request (starts_old (Poll outcome) events call url request refl x)) (answers_more m told base o.exchanges p.exchanges c (extends (Poll outcome) o p heard) h.answers)

-- ---- the whole trace

module _ (laws : Laws) (plan : Plan) (told : Lists) (base : State) where
  abbrev m : Module
  m = plan.routes

  -- by where the turns go then
  goes : (c x d : Control) (o p : Seen) (event : Event) (events : List LinkEvent) → Known m told base c o events → Hears event o p → is_start event ≡ false → ((call : Call) → IsBeforeIn c.phase c call → IsBefore call x.turn x.calls) → Silent plan x d
      → Rested m (events ++ link_part event) d.phase → AreAnswered m told base p.exchanges x → Known m told base d p (events ++ link_part event)
  goes c x d o p event events h heard s later silent rest answers =
      quiet m told base c d o p event events h heard s (λ call k. rests d.phase d call (silent_later plan x d silent call (later call k))) (rest d)
      (answers_silent laws plan told base p.exchanges x d silent answers)

  grown : (c : Control) (o p : Seen) (event : Event) (events : List LinkEvent) → Known m told base c o events → Hears event o p → AreAnswered m told base p.exchanges c
  grown c o p event events h heard = answers_more m told base o.exchanges p.exchanges c (extends event o p heard) h.answers

  -- it stops
  stops : (c : Control) (o p : Seen) (event : Event) (events : List LinkEvent) (by : End) → Known m told base c o events → Hears event o p → is_start event ≡ false → Known m told base (at (Stopped by) c) p (events ++ link_part event)
  stops c o p event events by h heard s =
      quiet m told base c (at (Stopped by) c) o p event events h heard s (ends c.phase c) tt (grown c o p event events h heard)

  known_one : (c : Control) (o : Seen) (event : Event) (d : Control) (p : Seen) (events : List LinkEvent) → IsSound plan c → IsRead told event → Moved plan c event d → Hears event o p → Known m told base c o events → Known m told base d p (events ++ link_part event)
  unfolding recorded
  known_one c o _ _ p events s r (BrokeOff by) heard h = stops c o p (Fails by) events (Broke by) h heard refl
  known_one c o _ _ p events s r (ReadNone split count offset e is) heard h =
      let event = Read split offset None in
      goes c c (read_from plan (split + 1) c) o p event events h heard refl (before_in c (Reading split count) e) (silent_read laws plan (split + 1) c s.held)
      (rest_read (Rested m (events ++ link_part event)) (rested m (events ++ link_part event)) plan (split + 1) c) (grown c o p event events h heard)
  known_one c o _ _ p events s r (ReadLarge split count offset found e large) heard h = stops c o p (Read split offset (Some found)) events (RecordTooLarge split (c.counts split) (size_of found)) h heard refl
  known_one c o _ _ p events s r (Took split count offset found e is) heard h =
      let event = Read split offset (Some found) in
      let next = take_record m split found c in
      let act = took m split (own_now c (Split split)) found in
      let held = held_recorded laws m (Some found) (step.Take split) act c (makes_take m split found c (stands_in plan c (Reading split count) e s.stands)) s.held in
      let mine : AreAnswered m told base p.exchanges c = grown c o p event events h heard in
      goes c next (read_on plan split (count + 1) next) o p event events h heard refl (before_in c (Reading split count) e) (silent_read_on laws plan split (count + 1) next held)
      (rest_read_on (Rested m (events ++ link_part event)) (rested m (events ++ link_part event)) plan split (count + 1) next)
      (answers_plain m told base p.exchanges (step.Take split) act c refl (replays_take laws plan told base split offset count found c s e is r mine.replays) mine)
  known_one c o _ _ p events s r (SawMoment moment e) heard h =
      let event = Now moment in
      let now = begun moment c in
      goes c now (read_from plan 0 now) o p event events h heard refl (before_in c Asking e) (silent_read laws plan 0 now (later c.moment moment c.work s.held))
      (rest_read (Rested m (events ++ link_part event)) (rested m (events ++ link_part event)) plan 0 now) (grown c o p event events h heard)
  known_one c o _ _ p events s r (Began batch url request e place is) heard h = begins m told base c o p events batch url request h e heard place is
  known_one c o _ _ p events s r (PolledNone batch call k outcome e) heard h = told_nothing m told base c o p events batch call k outcome h heard e
  known_one c o _ _ p events s r (FailedBy batch call k outcome why e is late) heard h =
      let event = Poll outcome in
      let next = with_reason batch why in
      let phase = tried_phase m next in
      quiet m told base c (at phase c) o p event events h heard refl (λ other x. rests phase c other (before_in c (Waiting batch call k) e other x))
      (tried_rested m (events ++ link_part event) next (nat_lt (length next.reasons) (attempts_at m batch.address)) (at phase c)) (grown c o p event events h heard)
  known_one c o _ _ p events s r (Accepts batch call k outcome answer effects e own is) heard h =
      let event = Poll outcome in
      let f = stands_in plan c (Waiting batch call k) e s.stands in
      let opened = open_in m told base c o events batch call k h e in
      let reply = reply_to batch call c answer in
      let act = served reply effects (own_now c (Function batch.address)) in
      let next = accepted plan batch call answer effects c in
      let mine : AreAnswered m told base p.exchanges c = grown c o p event events h heard in
      let replays = replays_recorded laws m told base None (step.Batch reply) act c (makes_batch laws plan batch call c answer effects f s.held is) refl s.held mine.replays in
      goes c next (finish plan next) o p event events h heard refl (before_in c (Waiting batch call k) e) (Phased next (finish_phase plan next)) (rest_finish (Rested m (events ++ link_part event)) (rested m (events ++ link_part event)) plan next)
      (answers_reply m told base p.exchanges (step.Batch reply) reply act c refl (backs laws plan c o p events batch call outcome answer f s.held h.journal heard own opened) replays mine)
  known_one c o _ _ p events s r (Misses batch call k outcome answer specs e own is) heard h =
      let event = Poll outcome in
      let f = stands_in plan c (Waiting batch call k) e s.stands in
      let opened = open_in m told base c o events batch call k h e in
      let reply = reply_to batch call c answer in
      let act = declared reply specs (own_now c (Function batch.address)) in
      let next = missed plan batch call answer specs c in
      let mine : AreAnswered m told base p.exchanges c = grown c o p event events h heard in
      let replays = replays_recorded laws m told base None (step.Register reply) act c (makes_register laws plan batch call c answer specs f s.held is) refl s.held mine.replays in
      goes c next (open_batch plan batch.address (length batch.letters) next) o p event events h heard refl (before_in c (Waiting batch call k) e) (silent_open plan batch.address (length batch.letters) next)
      (rest_open (Rested m (events ++ link_part event)) (rested m (events ++ link_part event)) plan batch.address (length batch.letters) next)
      (answers_reply m told base p.exchanges (step.Register reply) reply act c refl (backs laws plan c o p events batch call outcome answer f s.held h.journal heard own opened) replays mine)

  -- with some journal
  abbrev pub KnownBy : Control → Seen → Type 0
  KnownBy c o = (events : List LinkEvent) × Known m told base c o events

  pub known_event : (c : Control) (o : Seen) (event : Event) (d : Control) (p : Seen) → IsSound plan c → IsRead told event → Moved plan c event d → Hears event o p → KnownBy c o → KnownBy d p
  known_event c o event d p s r moved heard h = (h.0 ++ link_part event, known_one c o event d p h.0 s r moved heard h.1)

pub known_first : (plan : Plan) (told : Lists) (start : Origin) (o : Seen) (events : List LinkEvent) → o.journal ≡ Some events → AreUpTo start.turn events → Known plan.routes told (base_of start) (first_control plan start) o events
known_first plan told start o events journal fresh = by (goes_on_behind plan start.turn)
  where
    early : (call : Call) (url request : List ℕ) → Contains events (Started call url request) → IsBefore call (start.turn + 1) 0
    early call url request x = let none = fresh call url request x in record { turn_is = omega (arith, none); number_is = λ e. absurd (omega (arith, none, e)) }

    by : (t : Bool) → Known plan.routes told (base_of start) (at (cond t Asking (Stopped (TurnsSpent (taken_in [])))) (at_rest start)) o events
    by true = record { journal = journal; fresh = early; waits = tt; answers = record { replays = replays_first plan.routes told start; backed = tt } }
    by false = record { journal = journal; fresh = early; waits = tt; answers = record { replays = replays_first plan.routes told start; backed = tt } }

-- ---- what is known at the end

up_to_in : (phase : Phase) (c : Control) (call : Call) → IsBeforeIn phase c call → call.leg ≤ c.turn
up_to_in phase c call h = let k = ends phase c call h in at_most call.leg c.turn k.turn_is (λ e. (let none = k.number_is e in absurd (omega (arith, none))))

pub backed_behind : (m : Module) (told : Lists) (start : Origin) (last : Control) (q : Seen) (events : List LinkEvent) → Known m told (base_of start) last q events → IsBackedBehind m told start q last
backed_behind m told start last q events h = record {
  backed = (h.answers).backed;
  journal = subst (λ (o : Option (List LinkEvent)). IfSome o (AreUpTo last.turn)) (sym h.journal) (λ call url request x. up_to_in last.phase last call (h.fresh call url request x));
}

-- ---- a front of the record

some_map : {A : Type 0} (o : Option A) (P Q : A → Type 0) → ((x : A) → P x → Q x) → IfSome o P → IfSome o Q
some_map None P Q f h = h
some_map (Some x) P Q f h = f x h

pub backed_front : (xs : List Exchange) (m : Module) (told : Lists) (st : State) (entries others : List Entry) → AreBacked xs m told st (entries ++ others) → AreBacked xs m told st entries
backed_front xs m told st [] others h = tt
backed_front xs m told st (entry ∷ entries) others h =
    (h.0, some_map (step_after m told st entry.step) (λ next. AreBacked xs m told next (entries ++ others)) (λ next. AreBacked xs m told next entries) (λ next k. backed_front xs m told next entries others k) h.1)
