-- What holds along a trace, and where the turns go by themselves.
use Rattle.std.proofs.Common.{◌≡◌, refl, ℕ, zero, suc, ◌+◌, List, [], ◌∷◌, Bool, true, false, cond, slice_get, Option, Some, None}
use Rattle.std.specs.Prelude.{nat_lt, ◌^◌}
use Rattle.std.specs.Option.{option_map_or}
use Rattle.typed_values.specs.declared.address.Address.{Address}
use Rattle.typed_values.specs.declared.letter.Letter.{Letter}
use Rattle.typed_values.specs.declared.letter.Sender.TheVariants.{Function}
use Rattle.typed_values.specs.declared.record.Delay.{Delay}
use Rattle.typed_values.specs.Delays.{due_at}
use Rattle.sf_outside.specs.Splits.{Grows}
use Rattle.address_routing.specs.declared.module.Endpoint.{Endpoint}
use Rattle.address_routing.specs.Routing.{splits_in, endpoint_of}
use Rattle.run_record.specs.declared.entry.Step.TheVariants as step
use Rattle.run_record.specs.Machine.{sent_later}
use Rattle.partition_core.specs.declared.bounds.Bounds.{Bounds}
use Rattle.partition_core.specs.Batches.{batch_at, opened_at}
use Rattle.statefun_driver.specs.Seen.{Event, Seen, Hears}
use Rattle.statefun_driver.specs.Turns.{Plan, Control, Phase, Reading, IsAsked, goes_on, at, quota, dues, own_now}
use Rattle.statefun_driver.specs.Turns.{finish_phase, opening, bounds_of, opened_by, open_batch, serve_first, serve, due_recorded, send_due, read_from, read_on}
use Rattle.statefun_driver.specs.Origins.{IsHeld}
use Rattle.statefun_driver.specs.Traces.{Trace, turns}
use Rattle.statefun_driver.proofs.Moving.{Moved, moves}
use Rattle.statefun_driver.proofs.Tracing as tracing
use Rattle.statefun_driver.proofs.Journal.{grows_itself, grows_then, grows_one}
use Rattle.statefun_driver.proofs.Standing.{Laws, IsFit, IsSound, held_recorded, makes_due, sound_one, sound_patient}

-- ---- along a trace

pub moved : (plan : Plan) (c : Control) (event : Event) → IsSound plan c → IsAsked plan.routes c.phase c event → Moved plan c event (goes_on plan c.phase c event)
moved plan c event s asked = moves plan c event (sound_patient plan c.phase c s.stands) asked

pub sound_next : (laws : Laws) (plan : Plan) → IsFit plan.routes → (c : Control) (event : Event) → IsSound plan c → IsAsked plan.routes c.phase c event → IsSound plan (goes_on plan c.phase c event)
sound_next laws plan fit c event s asked = sound_one laws plan fit c event (goes_on plan c.phase c event) (moved plan c event s asked) s

pub sound_along : (laws : Laws) (plan : Plan) → IsFit plan.routes → (c : Control) (o : Seen) (events : List Event) (d : Control) (q : Seen) → Trace plan c o events d q → IsSound plan c → IsSound plan d
sound_along laws plan fit = tracing.along (turns plan) (λ c o. IsSound plan c) (λ c o event p asked heard s. sound_next laws plan fit c event s asked)

-- from the end, where each event is one of the ten cases
pub backwards : (laws : Laws) (plan : Plan) → IsFit plan.routes → (d : Control) (q : Seen) (P : Control → Seen → List Event → Type 0) → P d q []
    → ((c : Control) (o : Seen) (event : Event) (p : Seen) (events : List Event) → IsSound plan c → IsAsked plan.routes c.phase c event → Moved plan c event (goes_on plan c.phase c event) → Hears event o p
    → P (goes_on plan c.phase c event) p events → P c o (event ∷ events))
    → (c : Control) (o : Seen) (events : List Event) → Trace plan c o events d q → IsSound plan c → P c o events
backwards laws plan fit d q P end one =
    tracing.backwards (turns plan) d q (λ c o events. IsSound plan c → P c o events) (λ s. end)
    (λ c o event p events asked heard more s. one c o event p events s asked (moved plan c event s asked) heard (more (sound_next laws plan fit c event s asked)))

-- what each event keeps holds at the end
pub along : (laws : Laws) (plan : Plan) → IsFit plan.routes → (q : Seen) (P : Control → Seen → Type 0)
    → ((c : Control) (o : Seen) (event : Event) (x : Control) (p : Seen) → IsSound plan c → IsAsked plan.routes c.phase c event → Moved plan c event x → Hears event o p → Grows p.lists q.lists → P c o → P x p)
    → (c : Control) (o : Seen) (events : List Event) (d : Control) → Trace plan c o events d q → IsSound plan c → P c o → P d q
along laws plan fit q P one c o events d t s =
    (backwards laws plan fit d q (λ c o events. Grows o.lists q.lists × (P c o → P d q)) (grows_itself q.lists, λ h. h)
    (λ c o event p events s asked m heard more. (grows_then o.lists p.lists q.lists (grows_one event o p heard) more.0, λ h. more.1 (one c o event (goes_on plan c.phase c event) p s asked m heard more.0 h)))
    c o events t s).1

-- ---- where the turns go by themselves, until they ask again

pub data Silent (plan : Plan) : Control → Control → Type 0 where
  Phased : (c : Control) (phase : Phase) → Silent plan c (at phase c)
  Opened : (c : Control) (address : Address) (batch : List Letter) (phase : Phase) → Silent plan c (record c { work = opened_at address batch c.work; phase = phase })
  Marked : (c : Control) → Silent plan c (record c { left = true })
  Sent : (c : Control) (due : Delay × List Delay) → due_at c.moment c.work.delays ≡ Some due → IsHeld c.work c.moment → Silent plan c (due_recorded plan.routes due c)
  Thens : (a b c : Control) → Silent plan a b → Silent plan b c → Silent plan a c

silent_opening : (plan : Plan) (bounds : Bounds) (address : Address) (batch : List Letter) (c : Control) → Silent plan c (opening bounds address batch c)
silent_opening plan bounds address [] c = Phased c _
silent_opening plan bounds address (letter ∷ batch) c = Opened c address (letter ∷ batch) _

pub silent_open : (plan : Plan) (address : Address) (most : ℕ) (c : Control) → Silent plan c (open_batch plan address most c)
silent_open plan address most c = by (endpoint_of plan.routes address.kind)
  where
    by : (o : Option Endpoint) → Silent plan c (opened_by plan address most c o)
    by None = Phased c (finish_phase plan c)
    by (Some endpoint) = silent_opening plan (bounds_of endpoint most) address (batch_at (bounds_of endpoint most) c.moment address c.work) c

silent_serve : (plan : Plan) (c : Control) → Silent plan c (serve plan c)
silent_serve plan c = by (slice_get c.work.post.ready 0)
  where
    by : (o : Option Address) → Silent plan c (serve_first plan c o)
    by None = Phased c (finish_phase plan c)
    by (Some address) = silent_open plan address (2 ^ 32) c

silent_due : (laws : Laws) (plan : Plan) (n : ℕ) (c : Control) → IsHeld c.work c.moment → Silent plan c (send_due plan.routes n c)
silent_due laws plan zero c h = Phased c c.phase
silent_due laws plan (suc n) c h = by (due_at c.moment c.work.delays) refl (λ due k. silent_due laws plan n (due_recorded plan.routes due c) k)
  where
    by : (o : Option (Delay × List Delay)) → due_at c.moment c.work.delays ≡ o
        → ((due : Delay × List Delay) → IsHeld (due_recorded plan.routes due c).work (due_recorded plan.routes due c).moment → Silent plan (due_recorded plan.routes due c) (send_due plan.routes n (due_recorded plan.routes due c)))
        → Silent plan c (option_map_or (λ (due : Delay × List Delay). send_due plan.routes n (due_recorded plan.routes due c)) o c)
    by None e more = Phased c c.phase
    by (Some due) e more =
        let next = due_recorded plan.routes due c in
        Thens c next (send_due plan.routes n next) (Sent c due e h)
        (more due (held_recorded laws plan.routes None (step.Due due.0.sender c.moment) (sent_later due.0.sender c.moment (own_now c (Function due.0.sender)) due) c (makes_due laws plan.routes due c e h) h))

pub silent_read : (laws : Laws) (plan : Plan) (split : ℕ) (c : Control) → IsHeld c.work c.moment → Silent plan c (read_from plan split c)
silent_read laws plan split c h = by (nat_lt split (splits_in plan.routes.ingresses))
  where
    by : (t : Bool) → Silent plan c (cond t (at (Reading split 0) c) (serve plan (send_due plan.routes dues c)))
    by true = Phased c (Reading split 0)
    by false = Thens c (send_due plan.routes dues c) (serve plan (send_due plan.routes dues c)) (silent_due laws plan dues c h) (silent_serve plan (send_due plan.routes dues c))

pub silent_read_on : (laws : Laws) (plan : Plan) (split count : ℕ) (c : Control) → IsHeld c.work c.moment → Silent plan c (read_on plan split count c)
silent_read_on laws plan split count c h = by (nat_lt count quota)
  where
    by : (t : Bool) → Silent plan c (cond t (at (Reading split count) c) (read_from plan (split + 1) (record c { left = true })))
    by true = Phased c (Reading split count)
    by false = Thens c (record c { left = true }) (read_from plan (split + 1) (record c { left = true })) (Marked c) (silent_read laws plan (split + 1) (record c { left = true }) h)
