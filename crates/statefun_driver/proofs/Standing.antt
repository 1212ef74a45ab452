-- What stands in each phase of the turns, whatever the outside answers.
use Rattle.std.proofs.Common.{◌≡◌, ◌∙◌, refl, sym, ap, subst, ℕ, zero, suc, ◌+◌, ◌<◌, ◌≤◌, ◌^◌, List, [], ◌∷◌, length, take, map, slice_get, Bool, true, false, cond, Option, Some, None, option_map, arith, length-append, ltb-true, ltb-false, lt-ltb}
use Rattle.std.specs.Prelude.{◌&&◌, not, nat_lt, nat_le, max, min}
use Rattle.std.specs.Option.{option_map_or}
use Rattle.std.specs.List.{AllByRecursion}
use Rattle.std.specs.Cmp.{first_so, second_so}
use Rattle.std.proofs.lemmas.Bool.{leb-false, le-leb}
use Rattle.proto_wire.specs.Message.{capped}
use Rattle.typed_values.specs.declared.name.TypeName.{TypeName}
use Rattle.typed_values.specs.declared.address.Address.{Address}
use Rattle.typed_values.specs.declared.letter.Letter.{Letter}
use Rattle.typed_values.specs.declared.letter.Sender.{Sender}
use Rattle.typed_values.specs.declared.letter.Sender.TheVariants.{Split, Function}
use Rattle.typed_values.specs.declared.record.Delay.{Delay}
use Rattle.typed_values.specs.declared.record.EgressRecord.{EgressRecord}
use Rattle.typed_values.specs.declared.cell.CellSpec.{CellSpec}
use Rattle.typed_values.specs.Sameness.{same_address}
use Rattle.typed_values.specs.Delays.{due_at}
use Rattle.typed_values.proofs.Sameness.{same_address-Decides}
use Rattle.sf_outside.specs.declared.ingress.IngressRecord.{IngressRecord}
use Rattle.sf_outside.specs.declared.call.Call.{Call}
use Rattle.request_reply.specs.Spelling.{to_spelling}
use Rattle.request_reply.specs.declared.flaw.Reason.{Reason}
use Rattle.batch_queue.specs.Batches.{request_size}
use Rattle.batch_queue.specs.Post.{waits, is_ready}
use Rattle.address_routing.specs.declared.module.Module.{Module}
use Rattle.address_routing.specs.declared.module.Endpoint.{Endpoint}
use Rattle.address_routing.specs.Routing.{splits_in, endpoint_of, is_usable}
use Rattle.invocation.specs.declared.effects.Effects.{Effects}
use Rattle.invocation.specs.declared.judging.Judged.TheVariants.{Accept, Register as Declare}
use Rattle.invocation.specs.Laws.{SizeIsOfParts}
use Rattle.invocation.specs.Requests.{head_size, request_of}
use Rattle.run_record.specs.declared.entry.Step.{Step}
use Rattle.run_record.specs.declared.entry.Step.TheVariants as step
use Rattle.run_record.specs.Machine.{Act, actor_of, took, served, declared, sent_later, is_within, is_asked, request_of_picks, batch_act, register_act, made}
use Rattle.run_record.proofs.Steps.{made-is, take-made}
use Rattle.partition_core.specs.declared.bounds.Bounds.{Bounds}
use Rattle.partition_core.specs.Batches.{batch_at, keeps, opened_at, sender_of}
use Rattle.partition_core.specs.Work.{Work, own_of, mail_in, state_of, settled, set_for, done, is_idle}
use Rattle.partition_core.specs.Laws.{IsInTurn, IsTheMachine, AnswersAreAsked, DueIsMade, flying, sender_of_due}
use Rattle.statefun_driver.specs.declared.end.End.TheVariants.{Done, TurnsSpent, EndpointFailed}
use Rattle.statefun_driver.specs.Seen.{Event}
use Rattle.statefun_driver.specs.Turns.{Plan, Control, Phase, Reading, Asking, Opening, Waiting, Stopped, Asked, at, recorded, own_now, quota, longest, size_of, dues}
use Rattle.statefun_driver.specs.Turns.{taken_in, is_done, ends_done, goes_on_behind, begun, finish, opening, bounds_of, opened_by, open_batch, serve_first, serve, due_recorded, send_due, read_from, take_record, read_on}
use Rattle.statefun_driver.specs.Turns.{attempts_at, patience_at, tried_phase, with_reason, reply_to}
use Rattle.statefun_driver.specs.Runs.{most_bytes, IsTooLarge}
use Rattle.statefun_driver.proofs.Moving.{Moved, BrokeOff, ReadNone, ReadLarge, Took, SawMoment, Began, PolledNone, FailedBy, Accepts, Misses, accepted, missed, Judges, IsPatient}
use Rattle.statefun_driver.specs.Origins.{IsHeld}
use Rattle.statefun_driver.proofs.Stamped.{AreTimely, stamped_for, stamped_later, timely_changes, timely_registers}
use Rattle.statefun_driver.proofs.Lined.{same_itself, first_all, line_with, line_put_all, line_settled}
use Rattle.statefun_driver.proofs.Opening.{fitting_front, fitting_keeps, keeps_count, keeps_bytes, fitting_none}

-- ---- what is known of lower crates and of the module

pub record Laws : Type 0 where
  pub machine : IsTheMachine
  pub asked : AnswersAreAsked
  pub due : DueIsMade
  pub size : SizeIsOfParts

pub record IsFit (m : Module) : Type 0 where
  pub usable : (kind : TypeName) (endpoint : Endpoint) → endpoint_of m kind ≡ Some endpoint → is_usable endpoint ≡ true
  pub modest : (kind : TypeName) (endpoint : Endpoint) → endpoint_of m kind ≡ Some endpoint → endpoint.max_bytes ≤ 8388608

-- ---- what stands

-- a batch that is asked for is in flight, within its endpoint's limits, and an attempt is left
pub record IsFlying (m : Module) (batch : Asked) (work : Work) (moment : ℕ) : Type 0 where
  pub endpoint : Endpoint
  pub route : endpoint_of m batch.address.kind ≡ Some endpoint
  pub usable : is_usable endpoint ≡ true
  pub letters : batch.letters ≡ flying batch.address work
  pub some : 0 < length batch.letters
  pub few : length batch.letters ≤ endpoint.max_letters
  pub small : request_size (head_size batch.address (work.cells batch.address) moment) batch.letters ≤ endpoint.max_bytes
  pub tried : length batch.reasons < endpoint.attempts

abbrev pub Stands : Plan → Phase → Control → Type 0
Stands plan Asking c = Unit {0}
Stands plan (Reading split count) c = split < splits_in plan.routes.ingresses
Stands plan (Opening batch) c = IsFlying plan.routes batch c.work c.moment
Stands plan (Waiting batch call polls) c = IsFlying plan.routes batch c.work c.moment
Stands plan (Stopped (EndpointFailed address reasons)) c = length reasons ≡ attempts_at plan.routes address
Stands plan (Stopped (Done taken)) c = (is_idle c.work ≡ true) × (c.left ≡ false)
Stands plan (Stopped end) c = IsTooLarge plan.routes c end

pub record IsSound (plan : Plan) (c : Control) : Type 0 where
  pub held : IsHeld c.work c.moment
  pub stands : Stands plan c.phase c

-- ---- steps

-- the machine makes the step, in its turn
pub record Makes (m : Module) (found : Option IngressRecord) (s : Step) (act : Act) (c : Control) : Type 0 where
  pub does : (given : List EgressRecord) → made m found (state_of c.counts given c.work) s ≡ Some act
  pub turn : IsInTurn c.work s
  pub moment : act.seen ≤ c.moment
  pub timely : AreTimely c.moment act.on_cells

seen_for : (actor : Sender) (value moment : ℕ) (seen : Address → ℕ) → value ≤ moment → ((address : Address) → seen address ≤ moment) → (address : Address) → set_for actor value seen address ≤ moment
seen_for (Split split) value moment seen h k address = k address
seen_for (Function own) value moment seen h k address = by (same_address own address)
  where
    by : (t : Bool) → cond t value (seen address) ≤ moment
    by true = h
    by false = k address

pub held_recorded : (laws : Laws) (m : Module) (found : Option IngressRecord) (s : Step) (act : Act) (c : Control) → Makes m found s act c → IsHeld c.work c.moment → IsHeld (recorded m s act c).work (recorded m s act c).moment
unfolding recorded done
held_recorded laws m found s act c makes h = record {
  owned = (laws.machine m found c.counts [] c.work s act (makes.does []) h.owned makes.turn).1;
  seen = seen_for (actor_of s) act.seen c.moment c.work.seen makes.moment h.seen;
  stamps = stamped_for (actor_of s) act.on_cells c.moment c.work.cells makes.timely h.stamps;
  line = line_put_all act.letters (settled s c.work.post) (line_settled s c.work.post h.line);
}

pub makes_take : (m : Module) (split : ℕ) (found : IngressRecord) (c : Control) → split < splits_in m.ingresses → Makes m (Some found) (step.Take split) (took m split (own_now c (Split split)) found) c
unfolding state_of
makes_take m split found c inside = record {
  does = λ given. take-made m (state_of c.counts given c.work) split found inside;
  turn = tt;
  moment = omega arith;
  timely = tt;
}

pub makes_due : (laws : Laws) (m : Module) (due : Delay × List Delay) (c : Control) → due_at c.moment c.work.delays ≡ Some due → IsHeld c.work c.moment
    → Makes m None (step.Due due.0.sender c.moment) (sent_later due.0.sender c.moment (own_now c (Function due.0.sender)) due) c
unfolding state_of
makes_due laws m due c e h = record {
  does = λ given. made-is m None (state_of c.counts given c.work) (step.Due due.0.sender c.moment) (sent_later due.0.sender c.moment (own_now c (Function due.0.sender)) due)
      (record { may = refl; does = laws.due m None c.work c.moment due e });
  turn = ap (option_map sender_of_due) e;
  moment = h.seen due.0.sender;
  timely = tt;
}

-- ---- answers

both : (a b : Bool) → a ≡ true → b ≡ true → (a && b) ≡ true
both a b e f = λ i. e i && f i

within_is : (laws : Laws) (endpoint : Endpoint) (letters : List Letter) (address : Address) (work : Work) (moment : ℕ) → 0 < length letters → length letters ≤ endpoint.max_letters
    → request_size (head_size address (work.cells address) moment) letters ≤ endpoint.max_bytes → is_within endpoint letters (request_of address (work.cells address) moment letters) ≡ true
within_is laws endpoint letters address work moment some few small =
    let request = request_of address (work.cells address) moment letters in
    let size : length (to_spelling request) ≡ request_size (head_size address (work.cells address) moment) letters = laws.size address (work.cells address) moment letters in
    both (nat_lt 0 (length letters) && nat_le (length letters) endpoint.max_letters) (nat_le (length (to_spelling request)) endpoint.max_bytes)
    (both (nat_lt 0 (length letters)) (nat_le (length letters) endpoint.max_letters) (lt-ltb 0 (length letters) some) (le-leb (length letters) endpoint.max_letters few))
    (le-leb (length (to_spelling request)) endpoint.max_bytes (subst (λ n. n ≤ endpoint.max_bytes) (sym size) small))

-- an answer to the letters in flight is asked for, and by their request
pub answer_asked : (laws : Laws) (m : Module) (c : Control) (batch : Asked) (call : Call) (answer : List ℕ) → IsFlying m batch c.work c.moment → IsHeld c.work c.moment
    → (is_asked m (own_of c.work batch.address) (mail_in c.work) (reply_to batch call c answer) ≡ true)
    × (request_of_picks m (c.work.cells batch.address) (λ sender. mail_in c.work sender batch.address) batch.address c.moment (map sender_of batch.letters)
    ≡ Some (request_of batch.address (c.work.cells batch.address) c.moment (flying batch.address c.work)))
answer_asked laws m c batch call answer f h =
    laws.asked m c.work (reply_to batch call c answer) f.endpoint h.owned (ap (map sender_of) f.letters) (h.seen batch.address) f.route
    (ap (λ letters. is_within f.endpoint letters (request_of batch.address (c.work.cells batch.address) c.moment letters)) (sym f.letters)
    ∙ within_is laws f.endpoint batch.letters batch.address c.work c.moment f.some f.few f.small)

pub makes_batch : (laws : Laws) (plan : Plan) (batch : Asked) (call : Call) (c : Control) (answer : List ℕ) (effects : Effects) → IsFlying plan.routes batch c.work c.moment → IsHeld c.work c.moment → Judges plan batch c answer (Accept effects)
    → Makes plan.routes None (step.Batch (reply_to batch call c answer)) (served (reply_to batch call c answer) effects (own_now c (Function batch.address))) c
unfolding state_of
makes_batch laws plan batch call c answer effects f h is =
    let reply = reply_to batch call c answer in
    let own = own_now c (Function batch.address) in
    record {
      does = λ given. made-is plan.routes None (state_of c.counts given c.work) (step.Batch reply) (served reply effects own)
          (record { may = (answer_asked laws plan.routes c batch call answer f h).0; does = ap (λ judged. batch_act reply judged own) is });
      turn = ap (map sender_of) f.letters;
      moment = omega arith;
      timely = (omega arith, timely_changes c.moment effects.mutations);
    }

pub makes_register : (laws : Laws) (plan : Plan) (batch : Asked) (call : Call) (c : Control) (answer : List ℕ) (specs : List CellSpec) → IsFlying plan.routes batch c.work c.moment → IsHeld c.work c.moment → Judges plan batch c answer (Declare specs)
    → Makes plan.routes None (step.Register (reply_to batch call c answer)) (declared (reply_to batch call c answer) specs (own_now c (Function batch.address))) c
unfolding state_of
makes_register laws plan batch call c answer specs f h is =
    let reply = reply_to batch call c answer in
    let own = own_now c (Function batch.address) in
    record {
      does = λ given. made-is plan.routes None (state_of c.counts given c.work) (step.Register reply) (declared reply specs own)
          (record { may = (answer_asked laws plan.routes c batch call answer f h).0; does = ap (λ judged. register_act reply judged own) is });
      turn = tt;
      moment = omega arith;
      timely = timely_registers c.moment specs;
    }

-- ---- the end of a turn

not_so : (b : Bool) → not b ≡ true → b ≡ false
not_so true e = absurd cc
not_so false e = refl

-- what is done has no more to read and nothing to do
pub done_parts : (c : Control) → is_done c ≡ true → (is_idle c.work ≡ true) × (c.left ≡ false)
done_parts c e = (second_so (not c.left) (is_idle c.work) e, not_so c.left (first_so (not c.left) (is_idle c.work) e))

finish_stands : (plan : Plan) (c : Control) (taken : ℕ) (t u : Bool) → ends_done plan c ≡ t → Stands plan (cond t (Stopped (Done taken)) (cond u Asking (Stopped (TurnsSpent taken)))) c
finish_stands plan c taken true u e = done_parts c (second_so (not plan.rests) (is_done c) e)
finish_stands plan c taken false true e = tt
finish_stands plan c taken false false e = tt

pub sound_finish : (plan : Plan) (c : Control) → IsHeld c.work c.moment → IsSound plan (finish plan c)
sound_finish plan c h = record { held = h; stands = finish_stands plan (finish plan c) (taken_in c.entries) (ends_done plan c) (goes_on_behind plan c.turn) refl }

-- ---- a batch that is opened

some_letters : (letters : List Letter) (count : ℕ) → waits letters count ≡ true → 0 < length letters
some_letters [] count e = absurd cc
some_letters (letter ∷ letters) count e = omega arith

usable_most : (endpoint : Endpoint) → is_usable endpoint ≡ true → 1 ≤ endpoint.max_letters
usable_most endpoint e =
    ltb-true 0 endpoint.max_letters (first_so (nat_lt 0 endpoint.max_letters) (nat_lt 0 endpoint.attempts) (first_so (nat_lt 0 endpoint.max_letters && nat_lt 0 endpoint.attempts) (nat_lt 0 endpoint.patience) e))

usable_attempts : (endpoint : Endpoint) → is_usable endpoint ≡ true → 0 < endpoint.attempts
usable_attempts endpoint e =
    ltb-true 0 endpoint.attempts (second_so (nat_lt 0 endpoint.max_letters) (nat_lt 0 endpoint.attempts) (first_so (nat_lt 0 endpoint.max_letters && nat_lt 0 endpoint.attempts) (nat_lt 0 endpoint.patience) e))

usable_patience : (endpoint : Endpoint) → is_usable endpoint ≡ true → 0 < endpoint.patience
usable_patience endpoint e = ltb-true 0 endpoint.patience (second_so (nat_lt 0 endpoint.max_letters && nat_lt 0 endpoint.attempts) (nat_lt 0 endpoint.patience) e)

module _ (plan : Plan) (fit : IsFit plan.routes) (address : Address) (most : ℕ) (c : Control) (some : 1 ≤ most) (waiting : is_ready c.work.post address ≡ true) (h : IsHeld c.work c.moment) where
  abbrev head : ℕ
  head = head_size address (c.work.cells address) c.moment

  abbrev letters : List Letter
  letters = c.work.post.letters address

  open_held : (batch : List Letter) → IsHeld (opened_at address batch c.work) c.moment
  open_held batch = record { owned = λ other. owned_by other (same_address address other) refl; seen = h.seen; stamps = h.stamps; line = line_with c.work.post address letters (length batch) h.line }
    where
      owned_by : (other : Address) (t : Bool) → same_address address other ≡ t → AllByRecursion (λ (letter : Letter). letter.target ≡ other) (cond t letters (c.work.post.letters other))
      owned_by other true e = subst (λ (a : Address). AllByRecursion (λ (letter : Letter). letter.target ≡ a) letters) ((same_address-Decides address other).0 e) (h.owned address)
      owned_by other false e = h.owned other

  module _ (endpoint : Endpoint) (route : endpoint_of plan.routes address.kind ≡ Some endpoint) where
    abbrev bounds : Bounds
    bounds = bounds_of endpoint most

    usable : is_usable endpoint ≡ true
    usable = fit.usable address.kind endpoint route

    large_size : bounds.max_bytes < request_size head (take 1 letters) → endpoint.max_bytes < capped (request_size head (take 1 letters))
    large_size passes = let little = fit.modest address.kind endpoint route in omega (arith, passes, little)

    flies : (batch : List Letter) → 0 < length batch → batch_at bounds c.moment address c.work ≡ batch → IsFlying plan.routes (record { address = address; letters = batch; reasons = [] }) (opened_at address batch c.work) c.moment
    flies batch more is =
        let front : take (length batch) letters ≡ batch = ap (λ xs. take (length xs) letters) (sym is) ∙ fitting_front bounds head letters ∙ is in
        let keep : keeps bounds head batch ≡ true = ap (keeps bounds head) (sym is) ∙ fitting_keeps bounds head letters (subst (λ xs. 0 < length xs) (sym is) more) in
        let count : length batch ≤ min endpoint.max_letters most = keeps_count bounds head batch keep in
        record {
          endpoint = endpoint;
          route = route;
          usable = usable;
          letters = sym front ∙ sym (ap (λ t. take (cond t (length batch) (c.work.post.in_flight address)) (cond t letters letters)) (same_itself address));
          some = more;
          few = omega (arith, count);
          small = keeps_bytes bounds head batch keep;
          tried = usable_attempts endpoint usable;
        }

    open_by : (batch : List Letter) → batch_at bounds c.moment address c.work ≡ batch → IsSound plan (opening bounds address batch c)
    open_by [] none = record {
      held = h;
      stands = (
        large_size (fitting_none bounds head letters (some_letters letters (c.work.post.in_flight address) waiting) (let two = usable_most endpoint usable in omega (arith, two, some)) none),
        refl,
        ap (option_map most_bytes) route,
      );
    }
    open_by (letter ∷ batch) is = record { held = open_held (letter ∷ batch); stands = flies (letter ∷ batch) (omega arith) is }

  pub sound_open : IsSound plan (open_batch plan address most c)
  sound_open = by (endpoint_of plan.routes address.kind) refl
    where
      by : (o : Option Endpoint) → endpoint_of plan.routes address.kind ≡ o → IsSound plan (opened_by plan address most c o)
      by None e = sound_finish plan c h
      by (Some endpoint) e = open_by endpoint e (batch_at (bounds_of endpoint most) c.moment address c.work) refl

pub sound_serve : (plan : Plan) → IsFit plan.routes → (c : Control) → IsHeld c.work c.moment → IsSound plan (serve plan c)
sound_serve plan fit c h = by (slice_get c.work.post.ready 0) refl
  where
    by : (o : Option Address) → slice_get c.work.post.ready 0 ≡ o → IsSound plan (serve_first plan c o)
    by None e = sound_finish plan c h
    by (Some address) e = sound_open plan fit address (2 ^ 32) c (omega arith) (first_all (λ a. is_ready c.work.post a ≡ true) c.work.post.ready address e h.line) h

-- ---- delayed letters and records

held_due : (laws : Laws) (m : Module) (n : ℕ) (c : Control) → IsHeld c.work c.moment → IsHeld (send_due m n c).work (send_due m n c).moment
held_due laws m zero c h = h
held_due laws m (suc n) c h = by (due_at c.moment c.work.delays) refl (λ due k. held_due laws m n (due_recorded m due c) k)
  where
    by : (o : Option (Delay × List Delay)) → due_at c.moment c.work.delays ≡ o
        → ((due : Delay × List Delay) → IsHeld (due_recorded m due c).work (due_recorded m due c).moment → IsHeld (send_due m n (due_recorded m due c)).work (send_due m n (due_recorded m due c)).moment)
        → IsHeld (option_map_or (λ (due : Delay × List Delay). send_due m n (due_recorded m due c)) o c).work (option_map_or (λ (due : Delay × List Delay). send_due m n (due_recorded m due c)) o c).moment
    by None e more = h
    by (Some due) e more = more due (held_recorded laws m None (step.Due due.0.sender c.moment) (sent_later due.0.sender c.moment (own_now c (Function due.0.sender)) due) c (makes_due laws m due c e h) h)

pub sound_read : (laws : Laws) (plan : Plan) → IsFit plan.routes → (split : ℕ) (c : Control) → IsHeld c.work c.moment → IsSound plan (read_from plan split c)
sound_read laws plan fit split c h = by (nat_lt split (splits_in plan.routes.ingresses)) refl
  where
    by : (t : Bool) → nat_lt split (splits_in plan.routes.ingresses) ≡ t → IsSound plan (cond t (at (Reading split 0) c) (serve plan (send_due plan.routes dues c)))
    by true e = record { held = h; stands = ltb-true split (splits_in plan.routes.ingresses) e }
    by false e = sound_serve plan fit (send_due plan.routes dues c) (held_due laws plan.routes dues c h)

sound_read_on : (laws : Laws) (plan : Plan) → IsFit plan.routes → (split count : ℕ) (c : Control) → split < splits_in plan.routes.ingresses → IsHeld c.work c.moment → IsSound plan (read_on plan split count c)
sound_read_on laws plan fit split count c inside h = by (nat_lt count quota)
  where
    by : (t : Bool) → IsSound plan (cond t (at (Reading split count) c) (read_from plan (split + 1) (record c { left = true })))
    by true = record { held = h; stands = inside }
    by false = sound_read laws plan fit (split + 1) (record c { left = true }) h

-- ---- calls

attempts_are : (m : Module) (address : Address) (endpoint : Endpoint) → endpoint_of m address.kind ≡ Some endpoint → attempts_at m address ≡ endpoint.attempts
attempts_are m address endpoint e = ap (λ o. option_map_or (λ (x : Endpoint). x.attempts) o 0) e

pub patience_is : (m : Module) (address : Address) (endpoint : Endpoint) → endpoint_of m address.kind ≡ Some endpoint → patience_at m address ≡ endpoint.patience
patience_is m address endpoint e = ap (λ o. option_map_or (λ (x : Endpoint). x.patience) o 0) e

sound_tried : (plan : Plan) (batch : Asked) (why : Reason) (c : Control) → IsHeld c.work c.moment → IsFlying plan.routes batch c.work c.moment → IsSound plan (at (tried_phase plan.routes (with_reason batch why)) c)
sound_tried plan batch why c h f = by (nat_lt (length next.reasons) (attempts_at plan.routes batch.address)) refl
  where
    next : Asked
    next = with_reason batch why

    more : length next.reasons ≡ length batch.reasons + 1
    more = length-append batch.reasons (why ∷ [])

    by : (t : Bool) → nat_lt (length next.reasons) (attempts_at plan.routes batch.address) ≡ t → IsSound plan (at (cond t (Opening next) (Stopped (EndpointFailed batch.address next.reasons))) c)
    by true e = record {
      held = h;
      stands = record {
        endpoint = f.endpoint;
        route = f.route;
        usable = f.usable;
        letters = f.letters;
        some = f.some;
        few = f.few;
        small = f.small;
        tried = let less = ltb-true (length next.reasons) (attempts_at plan.routes batch.address) e in subst (λ n. length next.reasons < n) (attempts_are plan.routes batch.address f.endpoint f.route) less;
      };
    }
    by false e = record {
      held = h;
      stands = (
          let no_less = ltb-false (length next.reasons) (attempts_at plan.routes batch.address) e in
          let all = attempts_are plan.routes batch.address f.endpoint f.route in
          let left : length batch.reasons < f.endpoint.attempts = f.tried in
          omega (arith, no_less, all, left, more)
          );
    }

taken_none : (n : ℕ) (letters : List Letter) → length letters ≡ 0 → 0 < length (take n letters) → ⊥
taken_none zero letters none some = absurd (omega (arith, some))
taken_none (suc n) [] none some = absurd (omega (arith, some))
taken_none (suc n) (letter ∷ letters) none some = absurd (omega (arith, none))

-- the letters that an answer leaves wait again
again : (plan : Plan) (batch : Asked) (call : Call) (answer : List ℕ) (specs : List CellSpec) (c : Control) → IsFlying plan.routes batch c.work c.moment → is_ready (missed plan batch call answer specs c).work.post batch.address ≡ true
unfolding recorded done
again plan batch call answer specs c f =
    ap (λ t. waits (cond t (c.work.post.letters batch.address) (c.work.post.letters batch.address)) (cond t 0 (c.work.post.in_flight batch.address))) (same_itself batch.address)
    ∙ by (c.work.post.letters batch.address) (subst (λ xs. 0 < length xs) f.letters f.some)
  where
    by : (waiting : List Letter) → 0 < length (take (c.work.post.in_flight batch.address) waiting) → waits waiting 0 ≡ true
    by [] some = absurd (taken_none (c.work.post.in_flight batch.address) [] refl some)
    by (letter ∷ others) some = refl

-- ---- events

pub stands_in : (plan : Plan) (c : Control) (phase : Phase) → c.phase ≡ phase → Stands plan c.phase c → Stands plan phase c
stands_in plan c phase e h = subst (λ (x : Phase). Stands plan x c) e h

pub later : (moment now : ℕ) (work : Work) → IsHeld work moment → IsHeld work (max moment now)
later moment now work h = record {
  owned = h.owned;
  seen = λ address. (let k = h.seen address in omega (arith, k));
  stamps = λ address. stamped_later moment (max moment now) (work.cells address) (omega arith) (h.stamps address);
  line = h.line;
}

pub sound_one : (laws : Laws) (plan : Plan) → IsFit plan.routes → (c : Control) (event : Event) (d : Control) → Moved plan c event d → IsSound plan c → IsSound plan d
sound_one laws plan fit c _ _ (BrokeOff by) s = record { held = s.held; stands = tt }
sound_one laws plan fit c _ _ (ReadNone split count offset e is) s = sound_read laws plan fit (split + 1) c s.held
sound_one laws plan fit c _ _ (ReadLarge split count offset found e large) s = record { held = s.held; stands = leb-false (size_of found) longest large }
sound_one laws plan fit c _ _ (Took split count offset found e is) s =
    let inside : split < splits_in plan.routes.ingresses = stands_in plan c (Reading split count) e s.stands in
    sound_read_on laws plan fit split (count + 1) (take_record plan.routes split found c) inside
    (held_recorded laws plan.routes (Some found) (step.Take split) (took plan.routes split (own_now c (Split split)) found) c (makes_take plan.routes split found c inside) s.held)
sound_one laws plan fit c _ _ (SawMoment moment e) s = sound_read laws plan fit 0 (begun moment c) (later c.moment moment c.work s.held)
sound_one laws plan fit c _ _ (Began batch url request e place is) s = record { held = s.held; stands = stands_in plan c (Opening batch) e s.stands }
sound_one laws plan fit c _ _ (PolledNone batch call k outcome e) s = record { held = s.held; stands = stands_in plan c (Waiting batch call k) e s.stands }
sound_one laws plan fit c _ _ (FailedBy batch call k outcome why e is late) s = sound_tried plan batch why c s.held (stands_in plan c (Waiting batch call k) e s.stands)
sound_one laws plan fit c _ _ (Accepts batch call k outcome answer effects e own is) s =
    let f = stands_in plan c (Waiting batch call k) e s.stands in
    sound_finish plan (accepted plan batch call answer effects c)
    (held_recorded laws plan.routes None (step.Batch (reply_to batch call c answer)) (served (reply_to batch call c answer) effects (own_now c (Function batch.address))) c (makes_batch laws plan batch call c answer effects f s.held is) s.held)
sound_one laws plan fit c _ _ (Misses batch call k outcome answer specs e own is) s =
    let f = stands_in plan c (Waiting batch call k) e s.stands in
    sound_open plan fit batch.address (length batch.letters) (missed plan batch call answer specs c) f.some (again plan batch call answer specs c f)
    (held_recorded laws plan.routes None (step.Register (reply_to batch call c answer)) (declared (reply_to batch call c answer) specs (own_now c (Function batch.address))) c (makes_register laws plan batch call c answer specs f s.held is) s.held)

pub sound_patient : (plan : Plan) (phase : Phase) (c : Control) → Stands plan phase c → IsPatient plan phase
sound_patient plan Asking c s = tt
sound_patient plan (Reading split count) c s = tt
sound_patient plan (Opening batch) c s = let k = usable_patience s.endpoint s.usable in subst (λ n. 0 < n) (sym (patience_is plan.routes batch.address s.endpoint s.route)) k
sound_patient plan (Waiting batch call polls) c s = tt
sound_patient plan (Stopped end) c s = tt
