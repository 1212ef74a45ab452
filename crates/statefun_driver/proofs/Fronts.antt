-- Where a run goes on keeps the entries, in front of what comes.
use Rattle.std.proofs.Common.{◌≡◌, ◌∙◌, sym, ap, subst, refl, ℕ, zero, suc, ◌+◌, Bool, true, false, cond, List, [], ◌∷◌, ◌++◌, slice_get, Option, Some, None, append-nil}
use Rattle.std.specs.Prelude.{nat_lt, ◌^◌}
use Rattle.std.specs.Option.{option_map_or}
use Rattle.std.proofs.lemmas.List.{append_assoc}
use Rattle.typed_values.specs.declared.address.Address.{Address}
use Rattle.typed_values.specs.declared.letter.Letter.{Letter}
use Rattle.typed_values.specs.declared.record.Delay.{Delay}
use Rattle.typed_values.specs.Delays.{due_at}
use Rattle.address_routing.specs.declared.module.Module.{Module}
use Rattle.address_routing.specs.declared.module.Endpoint.{Endpoint}
use Rattle.address_routing.specs.Routing.{splits_in, endpoint_of}
use Rattle.partition_core.specs.declared.bounds.Bounds.{Bounds}
use Rattle.partition_core.specs.Batches.{batch_at}
use Rattle.statefun_driver.specs.Turns.{Plan, Control, Reading, at, dues, quota, due_recorded, send_due, opening, opened_by, open_batch, bounds_of, serve_first, serve, read_from, read_on, recorded}
use Rattle.statefun_driver.specs.Traces.{IsFront}

pub front_same : {A : Type 0} (xs : List A) → IsFront xs xs
front_same xs = ([], sym (append-nil xs))

pub front_then : {A : Type 0} (xs ys zs : List A) → IsFront xs ys → IsFront ys zs → IsFront xs zs
front_then xs ys zs h k = (h.0 ++ k.0, k.1 ∙ ap (λ ls. ls ++ k.0) h.1 ∙ append_assoc xs h.0 k.0)

due_front : (m : Module) (due : Delay × List Delay) (c : Control) → IsFront c.entries (due_recorded m due c).entries
unfolding recorded
due_front m due c = (_, refl)

pub send_due_front : (m : Module) (n : ℕ) (c : Control) → IsFront c.entries (send_due m n c).entries
send_due_front m zero c = front_same c.entries
send_due_front m (suc n) c = by (due_at c.moment c.work.delays) (λ due. front_then c.entries (due_recorded m due c).entries (send_due m n (due_recorded m due c)).entries (due_front m due c) (send_due_front m n (due_recorded m due c)))
  where
    by : (due : Option (Delay × List Delay)) → ((d : Delay × List Delay) → IsFront c.entries (send_due m n (due_recorded m d c)).entries)
        → IsFront c.entries (option_map_or (λ (d : Delay × List Delay). send_due m n (due_recorded m d c)) due c).entries
    by None more = front_same c.entries
    by (Some d) more = more d

opening_entries : (bounds : Bounds) (address : Address) (letters : List Letter) (c : Control) → (opening bounds address letters c).entries ≡ c.entries
opening_entries bounds address [] c = refl
opening_entries bounds address (letter ∷ letters) c = refl

pub open_entries : (plan : Plan) (address : Address) (most : ℕ) (c : Control) → (open_batch plan address most c).entries ≡ c.entries
open_entries plan address most c = by (endpoint_of plan.routes address.kind)
  where
    by : (o : Option Endpoint) → (opened_by plan address most c o).entries ≡ c.entries
    by None = refl
    by (Some endpoint) = opening_entries (bounds_of endpoint most) address (batch_at (bounds_of endpoint most) c.moment address c.work) c

pub serve_entries : (plan : Plan) (c : Control) → (serve plan c).entries ≡ c.entries
serve_entries plan c = by (slice_get c.work.post.ready 0)
  where
    by : (o : Option Address) → (serve_first plan c o).entries ≡ c.entries
    by None = refl
    by (Some address) = open_entries plan address (2 ^ 32) c

pub read_front : (plan : Plan) (split : ℕ) (c : Control) → IsFront c.entries (read_from plan split c).entries
read_front plan split c = by (nat_lt split (splits_in plan.routes.ingresses))
  where
    by : (t : Bool) → IsFront c.entries (cond t (at (Reading split 0) c) (serve plan (send_due plan.routes dues c))).entries
    by true = front_same c.entries
    by false = subst (IsFront c.entries) (sym (serve_entries plan (send_due plan.routes dues c))) (send_due_front plan.routes dues c)

pub read_on_front : (plan : Plan) (split j : ℕ) (c : Control) → IsFront c.entries (read_on plan split j c).entries
read_on_front plan split j c = by (nat_lt j quota)
  where
    by : (t : Bool) → IsFront c.entries (cond t (at (Reading split j) c) (read_from plan (split + 1) (record c { left = true }))).entries
    by true = front_same c.entries
    by false = read_front plan (split + 1) (record c { left = true })
