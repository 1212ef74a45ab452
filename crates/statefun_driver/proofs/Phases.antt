-- Where a run goes on does not ask for the phase that it was in.
use Rattle.std.proofs.Common.{◌≡◌, ◌∙◌, ap, refl, ℕ, zero, suc, Bool, true, false, cond, List, [], ◌∷◌, slice_get, Option, Some, None}
use Rattle.std.specs.Prelude.{nat_lt, ◌^◌}
use Rattle.std.specs.Option.{option_map_or}
use Rattle.typed_values.specs.declared.address.Address.{Address}
use Rattle.typed_values.specs.declared.letter.Letter.{Letter}
use Rattle.typed_values.specs.declared.record.Delay.{Delay}
use Rattle.typed_values.specs.Delays.{due_at}
use Rattle.address_routing.specs.declared.module.Module.{Module}
use Rattle.address_routing.specs.declared.module.Endpoint.{Endpoint}
use Rattle.address_routing.specs.Routing.{splits_in, endpoint_of}
use Rattle.partition_core.specs.declared.bounds.Bounds.{Bounds}
use Rattle.partition_core.specs.Batches.{batch_at}
use Rattle.statefun_driver.specs.Turns.{Plan, Control, Phase, Reading, at, dues, due_recorded, send_due, opening, opened_by, open_batch, bounds_of, serve_first, serve, read_from, recorded}

due_phase : (m : Module) (due : Delay × List Delay) (phase : Phase) (c : Control) → due_recorded m due (at phase c) ≡ at phase (due_recorded m due c)
unfolding recorded
due_phase m due phase c = refl

pub send_due_phase : (m : Module) (n : ℕ) (phase : Phase) (c : Control) → send_due m n (at phase c) ≡ at phase (send_due m n c)
send_due_phase m zero phase c = refl
send_due_phase m (suc n) phase c = by (due_at c.moment c.work.delays) (λ due. ap (send_due m n) (due_phase m due phase c) ∙ send_due_phase m n phase (due_recorded m due c))
  where
    by : (due : Option (Delay × List Delay)) → ((d : Delay × List Delay) → send_due m n (due_recorded m d (at phase c)) ≡ at phase (send_due m n (due_recorded m d c)))
        → option_map_or (λ (d : Delay × List Delay). send_due m n (due_recorded m d (at phase c))) due (at phase c) ≡ at phase (option_map_or (λ (d : Delay × List Delay). send_due m n (due_recorded m d c)) due c)
    by None more = refl
    by (Some d) more = more d

opening_phase : (bounds : Bounds) (address : Address) (letters : List Letter) (phase : Phase) (c : Control) → opening bounds address letters (at phase c) ≡ opening bounds address letters c
opening_phase bounds address [] phase c = refl
opening_phase bounds address (letter ∷ letters) phase c = refl

pub open_phase : (plan : Plan) (address : Address) (most : ℕ) (phase : Phase) (c : Control) → open_batch plan address most (at phase c) ≡ open_batch plan address most c
open_phase plan address most phase c = by (endpoint_of plan.routes address.kind)
  where
    by : (o : Option Endpoint) → opened_by plan address most (at phase c) o ≡ opened_by plan address most c o
    by None = refl
    by (Some endpoint) = opening_phase (bounds_of endpoint most) address (batch_at (bounds_of endpoint most) c.moment address c.work) phase c

pub serve_phase : (plan : Plan) (phase : Phase) (c : Control) → serve plan (at phase c) ≡ serve plan c
serve_phase plan phase c = by (slice_get c.work.post.ready 0)
  where
    by : (o : Option Address) → serve_first plan (at phase c) o ≡ serve_first plan c o
    by None = refl
    by (Some address) = open_phase plan address (2 ^ 32) phase c

pub read_phase : (plan : Plan) (split : ℕ) (phase : Phase) (c : Control) → read_from plan split (at phase c) ≡ read_from plan split c
read_phase plan split phase c = by (nat_lt split (splits_in plan.routes.ingresses))
  where
    reading : Control → Control
    reading d = at (Reading split 0) d

    by : (t : Bool) → cond t (reading (at phase c)) (serve plan (send_due plan.routes dues (at phase c))) ≡ cond t (reading c) (serve plan (send_due plan.routes dues c))
    by true = refl
    by false = ap (serve plan) (send_due_phase plan.routes dues phase c) ∙ serve_phase plan phase (send_due plan.routes dues c)
