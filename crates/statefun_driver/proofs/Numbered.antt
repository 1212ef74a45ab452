-- The entries of turns are numbered: their keys rise, and none is of another turn or of a later moment.
use Rattle.std.proofs.Common.{◌≡◌, ◌∙◌, refl, sym, ap, subst, ℕ, ◌+◌, ◌-◌, ◌<◌, ◌≤◌, List, [], ◌∷◌, ◌++◌, length, length-append, Bool, true, false, cond, Option, Some, None, option_map, arith, nat_lt, nat_eq, ltb-false, lt-ltb, eq-eqb}
use Rattle.std.specs.Prelude.{IfSome, ◌&&◌, ◌||◌, max}
use Rattle.std.specs.Option.{option_to_list}
use Rattle.std.specs.List.{AllByRecursion}
use Rattle.typed_values.specs.declared.letter.Sender.TheVariants.{Split, Function}
use Rattle.sf_outside.specs.declared.call.Call.{Call}
use Rattle.address_routing.specs.declared.module.Module.{Module}
use Rattle.run_record.specs.declared.entry.Entry.{Entry}
use Rattle.run_record.specs.declared.entry.Reply.{Reply}
use Rattle.run_record.specs.declared.entry.Step.{Step}
use Rattle.run_record.specs.declared.entry.Step.TheVariants as step
use Rattle.run_record.specs.Machine.{Act, reply_of, took, served, declared, sent_later}
use Rattle.run_record.specs.Record.{key_before}
use Rattle.run_record.specs.Backed.{calls_of}
use Rattle.statefun_driver.specs.declared.end.End.{End}
use Rattle.statefun_driver.specs.declared.end.End.TheVariants.{TurnsSpent, EndpointFailed}
use Rattle.statefun_driver.specs.Seen.{Event}
use Rattle.statefun_driver.specs.Turns.{Plan, Control, Origin, Phase, Reading, Asking, Opening, Waiting, Stopped, Asked, at, begun, entry_of, recorded, own_now, reply_to, first_control, goes_on_behind, taken_in}
use Rattle.statefun_driver.specs.Turns.{finish_phase, finish, open_batch, read_from, read_on, take_record, with_reason, attempts_at}
use Rattle.statefun_driver.specs.Stretches.{AreRising, IsInTime, IsBetween, IsEntryOf, AreCallsOf}
use Rattle.statefun_driver.proofs.Moving.{Moved, BrokeOff, ReadNone, ReadLarge, Took, SawMoment, Began, PolledNone, FailedBy, Accepts, Misses, accepted, missed}
use Rattle.statefun_driver.proofs.Resting.{Rests, rest_finish, rest_open, rest_read, rest_read_on}
use Rattle.statefun_driver.proofs.Standing.{Laws, IsSound, makes_take, held_recorded, stands_in, later}
use Rattle.statefun_driver.proofs.Ways.{Silent, Phased, Opened, Marked, Sent, Thens, silent_open, silent_read, silent_read_on}

-- ---- lists of entries

all_map : (P Q : Entry → Type 0) (entries : List Entry) → ((entry : Entry) → P entry → Q entry) → AllByRecursion P entries → AllByRecursion Q entries
all_map P Q [] f h = tt
all_map P Q (entry ∷ entries) f h = (f entry h.0, all_map P Q entries f h.1)

all_push : (P : Entry → Type 0) (entries : List Entry) (entry : Entry) → AllByRecursion P entries → P entry → AllByRecursion P (entries ++ entry ∷ [])
all_push P [] entry h k = (k, tt)
all_push P (other ∷ entries) entry h k = (h.0, all_push P entries entry h.1 k)

rising_push : (entries : List Entry) (entry : Entry) → AreRising entries → AllByRecursion (λ (other : Entry). key_before other entry ≡ true) entries → AreRising (entries ++ entry ∷ [])
rising_push [] entry h k = (tt, tt)
rising_push (other ∷ entries) entry h k = (all_push (λ (x : Entry). key_before other x ≡ true) entries entry h.0 k.0, rising_push entries entry h.1 k.1)

key_above : (a b : Entry) → a.leg ≤ b.leg → (a.leg ≡ b.leg → a.stamp < b.stamp) → key_before a b ≡ true
key_above a b h k = by (nat_lt a.leg b.leg) refl
  where
    by : (t : Bool) → nat_lt a.leg b.leg ≡ t → (t || (nat_eq a.leg b.leg && (nat_lt a.stamp b.stamp || (nat_eq a.stamp b.stamp && nat_lt a.node b.node)))) ≡ true
    by true e = refl
    by false e =
        let no = ltb-false a.leg b.leg e in
        let same : a.leg ≡ b.leg = omega (arith, no, h) in
        λ i. eq-eqb a.leg b.leg same i && (lt-ltb a.stamp b.stamp (k same) i || (nat_eq a.stamp b.stamp && nat_lt a.node b.node))

-- ---- what holds of the entries so far

-- one of these turns, and of so many of the last
pub record IsNumbered (start : Origin) (turn last made : ℕ) (entry : Entry) : Type 0 where
  pub leg : IsBetween start.turn turn entry.leg
  pub stamp : entry.leg ≡ turn → entry.stamp ≤ made
  pub moment : IsInTime last entry.step
  pub call : IfSome (reply_of entry.step) (λ reply. reply.call.leg ≡ entry.leg)

abbrev AreNumbered : Origin → ℕ → ℕ → ℕ → List Entry → Type 0
AreNumbered start turn moment made entries = AllByRecursion (λ (entry : Entry). IsNumbered start turn moment made entry) entries

pub record IsInOrder (start : Origin) (c : Control) : Type 0 where
  pub moment : start.moment ≤ c.moment
  pub before : c.before ≤ length c.entries
  pub entries : AreNumbered start c.turn c.moment (length c.entries - c.before) c.entries
  pub rising : AreRising c.entries

-- by the phase
abbrev Runs : Origin → Phase → ℕ → Type 0
Runs start Asking turn = start.turn ≤ turn
Runs start (Reading split count) turn = start.turn < turn
Runs start (Opening batch) turn = start.turn < turn
Runs start (Waiting batch call polls) turn = (start.turn < turn) × (call.leg ≡ turn)
Runs start (Stopped by) turn = start.turn ≤ turn

pub record AreOrdered (start : Origin) (c : Control) : Type 0 where
  pub order : IsInOrder start c
  pub runs : Runs start c.phase c.turn

runs_least : (start : Origin) (phase : Phase) (turn : ℕ) → Runs start phase turn → start.turn ≤ turn
runs_least start Asking turn h = h
runs_least start (Reading split count) turn h = omega (arith, h)
runs_least start (Opening batch) turn h = omega (arith, h)
runs_least start (Waiting batch call polls) turn h = let k = h.0 in omega (arith, k)
runs_least start (Stopped by) turn h = h

runs_in : (start : Origin) (c : Control) (phase : Phase) → c.phase ≡ phase → AreOrdered start c → Runs start phase c.turn
runs_in start c phase e h = subst (λ (x : Phase). Runs start x c.turn) e h.runs

abbrev Rested : Origin → Phase → Type 0
Rested start phase = (turn : ℕ) → start.turn < turn → Runs start phase turn

rested : (start : Origin) → Rests (Rested start)
rested start = record {
  asking = λ turn h. omega (arith, h);
  reading = λ split count turn h. h;
  opening = λ batch turn h. h;
  done = λ taken turn h. omega (arith, h);
  spent = λ taken turn h. omega (arith, h);
  large = λ address size limit turn h. omega (arith, h);
}

tried_rested : (start : Origin) (batch : Asked) (t : Bool) → Rested start (cond t (Opening batch) (Stopped (EndpointFailed batch.address batch.reasons)))
tried_rested start batch true turn h = h
tried_rested start batch false turn h = omega (arith, h)

-- ---- one step

one_more : (n before : ℕ) → before ≤ n → (n - before) + 1 ≡ (n + 1) - before
one_more n before h = omega (arith, h)

order_recorded : (start : Origin) (m : Module) (s : Step) (act : Act) (c : Control) → start.turn < c.turn → IsInTime c.moment s → IfSome (reply_of s) (λ reply. reply.call.leg ≡ c.turn) → IsInOrder start c → IsInOrder start (recorded m s act c)
unfolding recorded
order_recorded start m s act c runs time call h =
    let entry = entry_of m c s in
    let made = length c.entries - c.before in
    let before = h.before in
    let longer = length-append c.entries (entry ∷ []) in
    let more : made + 1 ≡ length (c.entries ++ entry ∷ []) - c.before = one_more (length c.entries) c.before before ∙ ap (λ (n : ℕ). n - c.before) (sym longer) in
    record {
      moment = h.moment;
      before = omega (arith, before, longer);
      entries = subst (λ (n : ℕ). AreNumbered start c.turn c.moment n (c.entries ++ entry ∷ [])) more
          (all_push (λ (x : Entry). IsNumbered start c.turn c.moment (made + 1) x) c.entries entry
          (all_map (λ (x : Entry). IsNumbered start c.turn c.moment made x) (λ (x : Entry). IsNumbered start c.turn c.moment (made + 1) x) c.entries
          (λ x k. record { leg = k.leg; stamp = λ e. (let few = k.stamp e in omega (arith, few)); moment = k.moment; call = k.call }) h.entries)
          (record { leg = (runs, omega arith); stamp = λ e. omega arith; moment = time; call = call }));
      rising = rising_push c.entries entry h.rising
          (all_map (λ (x : Entry). IsNumbered start c.turn c.moment made x) (λ (x : Entry). key_before x entry ≡ true) c.entries
          (λ x k. key_above x entry k.leg.1 (λ e. (let few = k.stamp e in omega (arith, few)))) h.entries);
    }

recorded_turn : (start : Origin) (m : Module) (s : Step) (act : Act) (c : Control) → start.turn < c.turn → start.turn < (recorded m s act c).turn
unfolding recorded
recorded_turn start m s act c h = h

-- a turn begins
in_time_later : (moment later : ℕ) (s : Step) → moment ≤ later → IsInTime moment s → IsInTime later s
in_time_later moment later (step.Take split) h k = tt
in_time_later moment later (step.Batch reply) h k = omega (arith, h, k)
in_time_later moment later (step.Register reply) h k = omega (arith, h, k)
in_time_later moment later (step.Due address at) h k = omega (arith, h, k)

order_begun : (start : Origin) (moment : ℕ) (c : Control) → IsInOrder start c → IsInOrder start (begun moment c)
order_begun start moment c h = record {
  moment = (let k = h.moment in omega (arith, k));
  before = omega arith;
  entries = all_map (λ (x : Entry). IsNumbered start c.turn c.moment (length c.entries - c.before) x) (λ (x : Entry). IsNumbered start (c.turn + 1) (max c.moment moment) (length c.entries - length c.entries) x) c.entries
      (λ x k. record {
        leg = (k.leg.0, (let few = k.leg.1 in omega (arith, few)));
        stamp = λ e. (let few = k.leg.1 in absurd (omega (arith, few, e)));
        moment = in_time_later c.moment (max c.moment moment) x.step (omega arith) k.moment;
        call = k.call;
      })
      h.entries;
  rising = h.rising;
}

-- ---- where the turns go by themselves

silent_turn : (plan : Plan) (a b : Control) → Silent plan a b → b.turn ≡ a.turn
unfolding recorded
silent_turn plan _ _ (Phased c phase) = refl
silent_turn plan _ _ (Opened c address batch phase) = refl
silent_turn plan _ _ (Marked c) = refl
silent_turn plan _ _ (Sent c due e held) = refl
silent_turn plan _ _ (Thens x b c s t) = silent_turn plan b c t ∙ silent_turn plan x b s

silent_order : (start : Origin) (plan : Plan) (a b : Control) → Silent plan a b → start.turn < a.turn → IsInOrder start a → IsInOrder start b
silent_order start plan _ _ (Phased c phase) runs h = record { moment = h.moment; before = h.before; entries = h.entries; rising = h.rising }
silent_order start plan _ _ (Opened c address batch phase) runs h = record { moment = h.moment; before = h.before; entries = h.entries; rising = h.rising }
silent_order start plan _ _ (Marked c) runs h = record { moment = h.moment; before = h.before; entries = h.entries; rising = h.rising }
silent_order start plan _ _ (Sent c due e held) runs h =
    order_recorded start plan.routes (step.Due due.0.sender c.moment) (sent_later due.0.sender c.moment (own_now c (Function due.0.sender)) due) c runs (omega arith) tt h
silent_order start plan _ _ (Thens x b c s t) runs h =
    silent_order start plan b c t (subst (λ (n : ℕ). start.turn < n) (sym (silent_turn plan x b s)) runs) (silent_order start plan x b s runs h)

-- ---- one event

module _ (laws : Laws) (plan : Plan) (start : Origin) where
  goes : (x d : Control) → Silent plan x d → Rested start d.phase → start.turn < x.turn → IsInOrder start x → AreOrdered start d
  goes x d silent rest runs h = record {
    order = silent_order start plan x d silent runs h;
    runs = rest d.turn (subst (λ (n : ℕ). start.turn < n) (sym (silent_turn plan x d silent)) runs);
  }

  stops : (c : Control) (by : End) → AreOrdered start c → AreOrdered start (at (Stopped by) c)
  stops c by h = let order = h.order in record {
    order = record { moment = order.moment; before = order.before; entries = order.entries; rising = order.rising };
    runs = runs_least start c.phase c.turn h.runs;
  }

  rephased : (c : Control) (phase : Phase) (calls : ℕ) → IsInOrder start c → IsInOrder start (record c { phase = phase; calls = calls })
  rephased c phase calls h = record { moment = h.moment; before = h.before; entries = h.entries; rising = h.rising }

  pub ordered_event : (c : Control) (event : Event) (d : Control) → IsSound plan c → Moved plan c event d → AreOrdered start c → AreOrdered start d
  ordered_event c _ _ s (BrokeOff by) h = stops c _ h
  ordered_event c _ _ s (ReadNone split count offset e is) h =
      goes c (read_from plan (split + 1) c) (silent_read laws plan (split + 1) c s.held) (rest_read (Rested start) (rested start) plan (split + 1) c) (runs_in start c (Reading split count) e h) h.order
  ordered_event c _ _ s (ReadLarge split count offset found e large) h = stops c _ h
  ordered_event c _ _ s (Took split count offset found e is) h =
      let next = take_record plan.routes split found c in
      let act = took plan.routes split (own_now c (Split split)) found in
      let held = held_recorded laws plan.routes (Some found) (step.Take split) act c (makes_take plan.routes split found c (stands_in plan c (Reading split count) e s.stands)) s.held in
      let runs = runs_in start c (Reading split count) e h in
      goes next (read_on plan split (count + 1) next) (silent_read_on laws plan split (count + 1) next held) (rest_read_on (Rested start) (rested start) plan split (count + 1) next)
      (recorded_turn start plan.routes (step.Take split) act c runs) (order_recorded start plan.routes (step.Take split) act c runs tt tt h.order)
  ordered_event c _ _ s (SawMoment moment e) h =
      let now = begun moment c in
      let runs = runs_in start c Asking e h in
      goes now (read_from plan 0 now) (silent_read laws plan 0 now (later c.moment moment c.work s.held)) (rest_read (Rested start) (rested start) plan 0 now) (omega (arith, runs)) (order_begun start moment c h.order)
  ordered_event c _ _ s (Began batch url request e place is) h = record { order = rephased c _ _ h.order; runs = (runs_in start c (Opening batch) e h, refl) }
  ordered_event c _ _ s (PolledNone batch call k outcome e) h = record { order = rephased c _ _ h.order; runs = runs_in start c (Waiting batch call k) e h }
  ordered_event c _ _ s (FailedBy batch call k outcome why e is late) h =
      let next = with_reason batch why in
      record { order = rephased c _ _ h.order; runs = tried_rested start next (nat_lt (length next.reasons) (attempts_at plan.routes batch.address)) c.turn (runs_in start c (Waiting batch call k) e h).0 }
  ordered_event c _ _ s (Accepts batch call k outcome answer effects e own is) h =
      let reply = reply_to batch call c answer in
      let act = served reply effects (own_now c (Function batch.address)) in
      let next = accepted plan batch call answer effects c in
      let runs = runs_in start c (Waiting batch call k) e h in
      goes next (finish plan next) (Phased next (finish_phase plan next)) (rest_finish (Rested start) (rested start) plan next) (recorded_turn start plan.routes (step.Batch reply) act c runs.0)
      (order_recorded start plan.routes (step.Batch reply) act c runs.0 (omega arith) runs.1 h.order)
  ordered_event c _ _ s (Misses batch call k outcome answer specs e own is) h =
      let reply = reply_to batch call c answer in
      let act = declared reply specs (own_now c (Function batch.address)) in
      let next = missed plan batch call answer specs c in
      let runs = runs_in start c (Waiting batch call k) e h in
      goes next (open_batch plan batch.address (length batch.letters) next) (silent_open plan batch.address (length batch.letters) next) (rest_open (Rested start) (rested start) plan batch.address (length batch.letters) next) (recorded_turn start plan.routes (step.Register reply) act c runs.0)
      (order_recorded start plan.routes (step.Register reply) act c runs.0 (omega arith) runs.1 h.order)

pub ordered_first : (plan : Plan) (start : Origin) → AreOrdered start (first_control plan start)
ordered_first plan start = record { order = record { moment = omega arith; before = omega arith; entries = tt; rising = tt }; runs = by (goes_on_behind plan start.turn) }
  where
    by : (t : Bool) → Runs start (cond t Asking (Stopped (TurnsSpent (taken_in [])))) start.turn
    by true = omega arith
    by false = omega arith

-- ---- at the end

pub ordered_turn : (start : Origin) (c : Control) → AreOrdered start c → start.turn ≤ c.turn
ordered_turn start c h = runs_least start c.phase c.turn h.runs

pub ordered_entries : (start : Origin) (c : Control) → AreOrdered start c → AllByRecursion (IsEntryOf start c) c.entries
ordered_entries start c h =
    all_map (λ (x : Entry). IsNumbered start c.turn c.moment (length c.entries - c.before) x) (IsEntryOf start c) c.entries (λ x k. record { leg = k.leg; moment = k.moment }) (h.order).entries

call_one : (start : Origin) (turn : ℕ) (entry : Entry) (reply : Option Reply) (calls : List Call) → IsBetween start.turn turn entry.leg → IfSome reply (λ reply. reply.call.leg ≡ entry.leg)
    → AllByRecursion (λ (call : Call). IsBetween start.turn turn call.leg) calls → AllByRecursion (λ (call : Call). IsBetween start.turn turn call.leg) (option_to_list (option_map (λ (x : Reply). x.call) reply) ++ calls)
call_one start turn entry None calls leg call h = h
call_one start turn entry (Some reply) calls leg call h = (subst (λ (n : ℕ). IsBetween start.turn turn n) (sym call) leg, h)

calls_all : (start : Origin) (turn moment made : ℕ) (entries : List Entry) → AreNumbered start turn moment made entries → AllByRecursion (λ (call : Call). IsBetween start.turn turn call.leg) (calls_of entries)
calls_all start turn moment made [] h = tt
calls_all start turn moment made (entry ∷ entries) h = call_one start turn entry (reply_of entry.step) (calls_of entries) h.0.leg h.0.call (calls_all start turn moment made entries h.1)

pub ordered_calls : (start : Origin) (c : Control) → AreOrdered start c → AreCallsOf start c (calls_of c.entries)
ordered_calls start c h = calls_all start c.turn c.moment (length c.entries - c.before) c.entries (h.order).entries
