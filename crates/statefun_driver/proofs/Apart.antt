-- No two entries have one call: a call is the number of its turn, and how many were started in that turn before it.
use Rattle.std.proofs.Common.{◌≡◌, ◌∙◌, refl, sym, ap, subst, ℕ, ◌+◌, ◌<◌, ◌≤◌, List, [], ◌∷◌, ◌++◌, append_assoc, append-nil, Bool, true, false, cond, Option, Some, None, option_map, arith, nat_lt, nat_eq, eqb-true}
use Rattle.std.specs.Prelude.{◌&&◌, nat_le, length}
use Rattle.std.specs.Option.{option_to_list}
use Rattle.std.specs.List.{AllByRecursion, IsDistinct}
use Rattle.std.specs.Cmp.{first_so, second_so}
use Rattle.std.proofs.lemmas.Bool.{false_from_ne_true, leb-true, leb-false}
use Rattle.sf_outside.specs.declared.call.Call.{Call}
use Rattle.typed_values.specs.declared.letter.Sender.TheVariants.{Split, Function}
use Rattle.address_routing.specs.declared.module.Module.{Module}
use Rattle.run_record.specs.declared.entry.Entry.{Entry}
use Rattle.run_record.specs.declared.entry.Step.{Step}
use Rattle.run_record.specs.declared.entry.Step.TheVariants as step
use Rattle.run_record.specs.declared.entry.Reply.{Reply}
use Rattle.run_record.specs.Machine.{Act, reply_of, took, served, declared, sent_later}
use Rattle.run_record.specs.Backed.{calls_of, same_call}
use Rattle.statefun_driver.specs.declared.end.End.{End}
use Rattle.statefun_driver.specs.declared.end.End.TheVariants.{TurnsSpent, EndpointFailed}
use Rattle.statefun_driver.specs.Seen.{Event}
use Rattle.statefun_driver.specs.Turns.{Plan, Control, Phase, Reading, Asking, Opening, Waiting, Stopped, Asked, Origin, first_control, rested as at_rest, goes_on_behind, begun, at, entry_of, recorded, own_now, call_of, reply_to}
use Rattle.statefun_driver.specs.Turns.{taken_in, read_from, read_on, take_record, finish_phase, finish, open_batch, with_reason, attempts_at, tried_phase}
use Rattle.statefun_driver.specs.Traces.{IsFront}
use Rattle.statefun_driver.proofs.Moving.{Moved, BrokeOff, ReadNone, ReadLarge, Took, SawMoment, Began, PolledNone, FailedBy, Accepts, Misses, accepted, missed}
use Rattle.statefun_driver.proofs.Resting.{Rests, rest_finish, rest_open, rest_read, rest_read_on}
use Rattle.statefun_driver.proofs.Standing.{Laws, IsSound, makes_take, held_recorded, stands_in, later}
use Rattle.statefun_driver.proofs.Ways.{Silent, Phased, Opened, Marked, Sent, Thens, silent_open, silent_read, silent_read_on}

-- ---- numbers of calls

pub at_most : (a b : ℕ) → a ≤ b + 1 → (a ≡ b + 1 → ⊥) → a ≤ b
at_most a b h never = by (nat_le a b) refl
  where
    by : (t : Bool) → nat_le a b ≡ t → a ≤ b
    by true e = leb-true a b e
    by false e = let more = leb-false a b e in absurd (never (omega (arith, more, h)))

-- a call comes before this number of this turn
pub record IsBefore (call : Call) (turn number : ℕ) : Type 0 where
  pub turn_is : call.leg ≤ turn
  pub number_is : call.leg ≡ turn → call.turn < number

abbrev AreBefore : List Call → ℕ → ℕ → Type 0
AreBefore calls turn number = AllByRecursion (λ (call : Call). IsBefore call turn number) calls

abbrev IsUnused : List Call → Call → Type 0
IsUnused calls call = AllByRecursion (λ (other : Call). same_call other call ≡ false) calls

calls_map : (P Q : Call → Type 0) (calls : List Call) → ((call : Call) → P call → Q call) → AllByRecursion P calls → AllByRecursion Q calls
calls_map P Q [] f h = tt
calls_map P Q (call ∷ calls) f h = (f call h.0, calls_map P Q calls f h.1)

calls_all_push : (P : Call → Type 0) (calls : List Call) (call : Call) → AllByRecursion P calls → P call → AllByRecursion P (calls ++ call ∷ [])
calls_all_push P [] call h k = (k, tt)
calls_all_push P (other ∷ calls) call h k = (h.0, calls_all_push P calls call h.1 k)

distinct_push : (calls : List Call) (call : Call) → IsDistinct same_call calls → IsUnused calls call → IsDistinct same_call (calls ++ call ∷ [])
unfolding IsDistinct
distinct_push [] call h k = (tt, tt)
distinct_push (other ∷ calls) call h k = (calls_all_push (λ (x : Call). same_call other x ≡ false) calls call h.0 k.0, distinct_push calls call h.1 k.1)

distinct_front : (calls others : List Call) → IsDistinct same_call (calls ++ others) → IsDistinct same_call calls
unfolding IsDistinct
distinct_front [] others h = tt
distinct_front (call ∷ calls) others h = (front calls h.0, distinct_front calls others h.1)
  where
    front : (xs : List Call) → AllByRecursion (λ (x : Call). same_call call x ≡ false) (xs ++ others) → AllByRecursion (λ (x : Call). same_call call x ≡ false) xs
    front [] k = tt
    front (x ∷ xs) k = (k.0, front xs k.1)

pub same_call_is : (a b : Call) → same_call a b ≡ true → a ≡ b
same_call_is a b e =
    let front = first_so (nat_eq a.leg b.leg && nat_eq a.partition b.partition) (nat_eq a.turn b.turn) e in
    let leg = eqb-true a.leg b.leg (first_so (nat_eq a.leg b.leg) (nat_eq a.partition b.partition) front) in
    let partition = eqb-true a.partition b.partition (second_so (nat_eq a.leg b.leg) (nat_eq a.partition b.partition) front) in
    let turn = eqb-true a.turn b.turn (second_so (nat_eq a.leg b.leg && nat_eq a.partition b.partition) (nat_eq a.turn b.turn) e) in
    λ i. record { leg = leg i; partition = partition i; turn = turn i }

-- an earlier call is another than the next
pub not_next : (c : Control) → IsBefore (call_of c) c.turn c.calls → ⊥
not_next c h = let n = h.number_is refl in absurd (omega (arith, n))

next_unused : (c : Control) (calls : List Call) → AreBefore calls c.turn c.calls → IsUnused calls (call_of c)
next_unused c calls h =
    calls_map (λ (call : Call). IsBefore call c.turn c.calls) (λ (call : Call). same_call call (call_of c) ≡ false) calls
    (λ call before. false_from_ne_true (same_call call (call_of c)) (λ e. not_next c (subst (λ (x : Call). IsBefore x c.turn c.calls) (same_call_is call (call_of c) e) before))) h

-- the turn and the number of the next call: between turns, the first of the next turn
abbrev pub next_turn : Phase → ℕ → ℕ
next_turn Asking turn = turn + 1
next_turn (Reading split count) turn = turn
next_turn (Opening batch) turn = turn
next_turn (Waiting batch call polls) turn = turn
next_turn (Stopped by) turn = turn + 1

abbrev pub next_call : Phase → ℕ → ℕ
next_call Asking calls = 0
next_call (Reading split count) calls = calls
next_call (Opening batch) calls = calls
next_call (Waiting batch call polls) calls = calls
next_call (Stopped by) calls = 0

abbrev pub IsBeforeIn : Phase → Control → Call → Type 0
IsBeforeIn phase c call = IsBefore call (next_turn phase c.turn) (next_call phase c.calls)

later_turn : (call : Call) (turn number : ℕ) → IsBefore call turn number → IsBefore call (turn + 1) 0
later_turn call turn number h = let k = h.turn_is in record { turn_is = omega (arith, k); number_is = λ e. absurd (omega (arith, k, e)) }

pub later_call : (call : Call) (turn number : ℕ) → IsBefore call turn number → IsBefore call turn (number + 1)
later_call call turn number h = record { turn_is = h.turn_is; number_is = λ e. (let k = h.number_is e in omega (arith, k)) }

-- behind a turn
pub rests : (phase : Phase) (c : Control) (call : Call) → IsBefore call c.turn c.calls → IsBeforeIn phase c call
rests Asking c call h = later_turn call c.turn c.calls h
rests (Reading split count) c call h = h
rests (Opening batch) c call h = h
rests (Waiting batch own polls) c call h = h
rests (Stopped by) c call h = later_turn call c.turn c.calls h

pub ends : (phase : Phase) (c : Control) (call : Call) → IsBeforeIn phase c call → IsBefore call (c.turn + 1) 0
ends Asking c call h = h
ends (Reading split count) c call h = later_turn call c.turn c.calls h
ends (Opening batch) c call h = later_turn call c.turn c.calls h
ends (Waiting batch own polls) c call h = later_turn call c.turn c.calls h
ends (Stopped by) c call h = h

pub before_in : (c : Control) (phase : Phase) → c.phase ≡ phase → (call : Call) → IsBeforeIn c.phase c call → IsBeforeIn phase c call
before_in c phase e call h = subst (λ (x : Phase). IsBeforeIn x c call) e h

-- ---- the calls of a record

abbrev calls_in : Entry → List Call
calls_in entry = option_to_list (option_map (λ (reply : Reply). reply.call) (reply_of entry.step))

calls_append : (entries more : List Entry) → calls_of (entries ++ more) ≡ calls_of entries ++ calls_of more
calls_append [] more = refl
calls_append (entry ∷ entries) more = ap (λ (x : List Call). calls_in entry ++ x) (calls_append entries more) ∙ sym (append_assoc (calls_in entry) (calls_of entries) (calls_of more))

calls_push : (entries : List Entry) (entry : Entry) → calls_of (entries ++ entry ∷ []) ≡ calls_of entries ++ calls_in entry
calls_push entries entry = calls_append entries (entry ∷ []) ∙ ap (λ (x : List Call). calls_of entries ++ x) (append-nil (calls_in entry))

-- ---- what holds of the entries so far

-- their calls come before a number of a turn, and no two of them are one
pub record AreCalled (entries : List Entry) (turn number : ℕ) : Type 0 where
  pub before : AreBefore (calls_of entries) turn number
  pub distinct : IsDistinct same_call (calls_of entries)

-- a call that is waited for is the last of this turn, and no entry has it
record IsWaited (c : Control) (call : Call) : Type 0 where
  turn : call.leg ≡ c.turn
  number : call.turn + 1 ≡ c.calls
  unused : IsUnused (calls_of c.entries) call

abbrev IsWaitedIn : Control → Phase → Type 0
IsWaitedIn c (Waiting batch call polls) = IsWaited c call
IsWaitedIn c phase = Unit {0}

pub record AreApart (c : Control) : Type 0 where
  called : AreCalled c.entries (next_turn c.phase c.turn) (next_call c.phase c.calls)
  waits : IsWaitedIn c c.phase

called_map : (entries : List Entry) (turn number t n : ℕ) → ((call : Call) → IsBefore call turn number → IsBefore call t n) → AreCalled entries turn number → AreCalled entries t n
called_map entries turn number t n f h = record {
  before = calls_map (λ (call : Call). IsBefore call turn number) (λ (call : Call). IsBefore call t n) (calls_of entries) f h.before;
  distinct = h.distinct;
}

abbrev AreCalledIn : Phase → Control → Type 0
AreCalledIn phase c = AreCalled c.entries (next_turn phase c.turn) (next_call phase c.calls)

called_rest : (phase : Phase) (c : Control) → AreCalled c.entries c.turn c.calls → AreCalledIn phase c
called_rest phase c h = called_map c.entries c.turn c.calls (next_turn phase c.turn) (next_call phase c.calls) (rests phase c) h

called_end : (phase : Phase) (c : Control) → AreCalledIn phase c → AreCalled c.entries (c.turn + 1) 0
called_end phase c h = called_map c.entries (next_turn phase c.turn) (next_call phase c.calls) (c.turn + 1) 0 (ends phase c) h

called_in : (c : Control) (phase : Phase) → c.phase ≡ phase → AreApart c → AreCalledIn phase c
called_in c phase e h = subst (λ (x : Phase). AreCalledIn x c) e h.called

-- ---- a step

-- that is made of no answer
called_plain : (m : Module) (s : Step) (act : Act) (c : Control) → reply_of s ≡ None → AreCalled c.entries c.turn c.calls → AreCalled (recorded m s act c).entries (recorded m s act c).turn (recorded m s act c).calls
unfolding recorded
called_plain m s act c none h =
    let same : calls_of (c.entries ++ entry_of m c s ∷ []) ≡ calls_of c.entries =
    calls_push c.entries (entry_of m c s) ∙ ap (λ (o : Option Reply). calls_of c.entries ++ option_to_list (option_map (λ (reply : Reply). reply.call) o)) none ∙ append-nil (calls_of c.entries) in
    record {
      before = subst (λ (calls : List Call). AreBefore calls c.turn c.calls) (sym same) h.before;
      distinct = subst (IsDistinct same_call) (sym same) h.distinct;
    }

-- that is made of an answer
called_reply : (m : Module) (s : Step) (reply : Reply) (act : Act) (c : Control) → reply_of s ≡ Some reply → IsWaited c reply.call → AreCalled c.entries c.turn c.calls → AreCalled (recorded m s act c).entries (recorded m s act c).turn (recorded m s act c).calls
unfolding recorded
called_reply m s reply act c some own h =
    let same : calls_of (c.entries ++ entry_of m c s ∷ []) ≡ calls_of c.entries ++ reply.call ∷ [] =
    calls_push c.entries (entry_of m c s) ∙ ap (λ (o : Option Reply). calls_of c.entries ++ option_to_list (option_map (λ (x : Reply). x.call) o)) some in
    let turn = own.turn in
    let number = own.number in
    record {
      before = subst (λ (calls : List Call). AreBefore calls c.turn c.calls) (sym same)
          (calls_all_push (λ (call : Call). IsBefore call c.turn c.calls) (calls_of c.entries) reply.call h.before (record { turn_is = omega (arith, turn); number_is = λ e. omega (arith, number) }));
      distinct = subst (IsDistinct same_call) (sym same) (distinct_push (calls_of c.entries) reply.call h.distinct own.unused);
    }

-- ---- where the turns go by themselves

abbrev pub IsLater : Control → Control → Type 0
IsLater c d = (call : Call) → IsBefore call c.turn c.calls → IsBefore call d.turn d.calls

pub silent_later : (plan : Plan) (a b : Control) → Silent plan a b → IsLater a b
unfolding recorded
silent_later plan _ _ (Phased c phase) call h = h
silent_later plan _ _ (Opened c address batch phase) call h = h
silent_later plan _ _ (Marked c) call h = h
silent_later plan _ _ (Sent c due e held) call h = h
silent_later plan _ _ (Thens x b c s t) call h = silent_later plan b c t call (silent_later plan x b s call h)

called_silent : (plan : Plan) (a b : Control) → Silent plan a b → AreCalled a.entries a.turn a.calls → AreCalled b.entries b.turn b.calls
called_silent plan _ _ (Phased c phase) h = h
called_silent plan _ _ (Opened c address batch phase) h = h
called_silent plan _ _ (Marked c) h = h
called_silent plan _ _ (Sent c due e held) h = called_plain plan.routes (step.Due due.0.sender c.moment) (sent_later due.0.sender c.moment (own_now c (Function due.0.sender)) due) c refl h
called_silent plan _ _ (Thens x b c s t) h = called_silent plan b c t (called_silent plan x b s h)

-- a phase in which no call is waited for
abbrev Rested : Phase → Type 0
Rested phase = (c : Control) → IsWaitedIn c phase

rested : Rests Rested
rested = record { asking = λ c. tt; reading = λ split count c. tt; opening = λ batch c. tt; done = λ taken c. tt; spent = λ taken c. tt; large = λ address size limit c. tt }

tried_rested : (batch : Asked) (t : Bool) → Rested (cond t (Opening batch) (Stopped (EndpointFailed batch.address batch.reasons)))
tried_rested batch true c = tt
tried_rested batch false c = tt

-- ---- one event

module _ (laws : Laws) (plan : Plan) where
  goes : (x d : Control) → Silent plan x d → Rested d.phase → AreCalled x.entries x.turn x.calls → AreApart d
  goes x d silent rest h = record { called = called_rest d.phase d (called_silent plan x d silent h); waits = rest d }

  stops : (c : Control) (by : End) → AreApart c → AreApart (at (Stopped by) c)
  stops c by h = record { called = called_end c.phase c h.called; waits = tt }

  -- the call that is waited for
  waited : (c : Control) (batch : Asked) (call : Call) (k : ℕ) → c.phase ≡ Waiting batch call k → AreApart c → IsWaited c call
  waited c batch call k e h = subst (IsWaitedIn c) e h.waits

  starts : (c : Control) (batch : Asked) → c.phase ≡ Opening batch → AreApart c → AreApart (at (Waiting batch (call_of c) 0) (record c { calls = c.calls + 1 }))
  starts c batch e h =
      let mine = called_in c (Opening batch) e h in
      record {
        called = called_map c.entries c.turn c.calls c.turn (c.calls + 1) (λ call k. later_call call c.turn c.calls k) mine;
        waits = record { turn = refl; number = refl; unused = next_unused c (calls_of c.entries) mine.before };
      }

  polls : (c : Control) (batch : Asked) (call : Call) (k : ℕ) → c.phase ≡ Waiting batch call k → AreApart c → AreApart (at (Waiting batch call (k + 1)) c)
  polls c batch call k e h =
      let own = waited c batch call k e h in record { called = called_in c (Waiting batch call k) e h; waits = record { turn = own.turn; number = own.number; unused = own.unused } }

  pub apart_event : (c : Control) (event : Event) (d : Control) → IsSound plan c → Moved plan c event d → AreApart c → AreApart d
  unfolding recorded
  apart_event c _ _ s (BrokeOff by) h = stops c _ h
  apart_event c _ _ s (ReadNone split count offset e is) h =
      goes c (read_from plan (split + 1) c) (silent_read laws plan (split + 1) c s.held) (rest_read Rested rested plan (split + 1) c) (called_in c (Reading split count) e h)
  apart_event c _ _ s (ReadLarge split count offset found e large) h = stops c _ h
  apart_event c _ _ s (Took split count offset found e is) h =
      let next = take_record plan.routes split found c in
      let act = took plan.routes split (own_now c (Split split)) found in
      let held = held_recorded laws plan.routes (Some found) (step.Take split) act c (makes_take plan.routes split found c (stands_in plan c (Reading split count) e s.stands)) s.held in
      goes next (read_on plan split (count + 1) next) (silent_read_on laws plan split (count + 1) next held) (rest_read_on Rested rested plan split (count + 1) next)
      (called_plain plan.routes (step.Take split) act c refl (called_in c (Reading split count) e h))
  apart_event c _ _ s (SawMoment moment e) h =
      let now = begun moment c in
      goes now (read_from plan 0 now) (silent_read laws plan 0 now (later c.moment moment c.work s.held)) (rest_read Rested rested plan 0 now) (called_in c Asking e h)
  apart_event c _ _ s (Began batch url request e place is) h = starts c batch e h
  apart_event c _ _ s (PolledNone batch call k outcome e) h = polls c batch call k e h
  apart_event c _ _ s (FailedBy batch call k outcome why e is late) h =
      let next = with_reason batch why in
      let phase = tried_phase plan.routes next in
      goes c (at phase c) (Phased c phase) (tried_rested next (nat_lt (length next.reasons) (attempts_at plan.routes batch.address))) (called_in c (Waiting batch call k) e h)
  apart_event c _ _ s (Accepts batch call k outcome answer effects e own is) h =
      let reply = reply_to batch call c answer in
      let act = served reply effects (own_now c (Function batch.address)) in
      let next = accepted plan batch call answer effects c in
      goes next (finish plan next) (Phased next (finish_phase plan next)) (rest_finish Rested rested plan next)
      (called_reply plan.routes (step.Batch reply) reply act c refl (waited c batch call k e h) (called_in c (Waiting batch call k) e h))
  apart_event c _ _ s (Misses batch call k outcome answer specs e own is) h =
      let reply = reply_to batch call c answer in
      let act = declared reply specs (own_now c (Function batch.address)) in
      let next = missed plan batch call answer specs c in
      goes next (open_batch plan batch.address (length batch.letters) next) (silent_open plan batch.address (length batch.letters) next) (rest_open Rested rested plan batch.address (length batch.letters) next)
      (called_reply plan.routes (step.Register reply) reply act c refl (waited c batch call k e h) (called_in c (Waiting batch call k) e h))

pub apart_first : (plan : Plan) (start : Origin) → AreApart (first_control plan start)
unfolding IsDistinct
apart_first plan start = by (goes_on_behind plan start.turn)
  where
    by : (t : Bool) → AreApart (at (cond t Asking (Stopped (TurnsSpent (taken_in [])))) (at_rest start))
    by true = record { called = record { before = tt; distinct = tt }; waits = tt }
    by false = record { called = record { before = tt; distinct = tt }; waits = tt }

-- ---- at the end

pub apart_calls : (c : Control) → AreApart c → IsDistinct same_call (calls_of c.entries)
apart_calls c h = (h.called).distinct

pub distinct_of_front : (entries whole : List Entry) → IsFront entries whole → IsDistinct same_call (calls_of whole) → IsDistinct same_call (calls_of entries)
distinct_of_front entries whole front h = distinct_front (calls_of entries) (calls_of front.0) (subst (IsDistinct same_call) (ap calls_of front.1 ∙ calls_append entries front.0) h)
