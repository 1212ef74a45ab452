-- The batches of a turn, one behind the other.
use Rattle.std.proofs.Common.{◌≡◌, ℕ, ◌<◌, ◌≤◌, ◌^◌, sym, ◌∙◌, ap, subst, List, length, slice_get, Option, Some, None, arith}
use Rattle.std.specs.Prelude.{min}
use Rattle.typed_values.specs.declared.address.Address.{Address}
use Rattle.typed_values.specs.declared.cells.Cell.{Cell}
use Rattle.address_routing.specs.declared.module.Endpoint.{Endpoint}
use Rattle.address_routing.specs.Routing.{endpoint_of}
use Rattle.statefun_driver.specs.declared.progress.Progress.{Progress}
use Rattle.statefun_driver.specs.Turns.{Plan, Control, finish, opened, opened_by, open_batch, serve_first, serve}
use Rattle.statefun_driver.specs.Work.{IsCalledBy, IfAgain}

-- ---- who is served

pub serve_idle : (plan : Plan) (c : Control) → slice_get c.work.post.ready 0 ≡ None → serve plan c ≡ finish plan c
serve_idle plan c e = ap (serve_first plan c) e

pub serve_unserved : (plan : Plan) (c : Control) (address : Address) → slice_get c.work.post.ready 0 ≡ Some address → endpoint_of plan.routes address.kind ≡ None → serve plan c ≡ finish plan c
serve_unserved plan c address e f = ap (serve_first plan c) e ∙ ap (opened_by plan address (2 ^ 32) c) f

same_least : (a : ℕ) → a < 2 ^ 32 → min a (2 ^ 32) ≡ min a a
same_least a h = omega arith

pub serve_opens : (plan : Plan) (c : Control) (address : Address) (endpoint : Endpoint) → slice_get c.work.post.ready 0 ≡ Some address → endpoint_of plan.routes address.kind ≡ Some endpoint → endpoint.max_letters < 2 ^ 32
    → serve plan c ≡ open_batch plan address endpoint.max_letters c
serve_opens plan c address endpoint e f few =
    ap (serve_first plan c) e ∙ ap (opened_by plan address (2 ^ 32) c) f
    ∙ ap (λ (n : ℕ). opened (record { max_letters = n; max_bytes = endpoint.max_bytes }) address c) (same_least endpoint.max_letters few)
    ∙ sym (ap (opened_by plan address endpoint.max_letters c) f)

-- ---- one batch behind the other

pub called_then : (a b c : Progress) → IsCalledBy a b → IsCalledBy b c → IsCalledBy a c
called_then a b c h k = record {
  turn = k.turn ∙ h.turn;
  counts = k.counts ∙ h.counts;
}

pub again_from : (address : Address) (most count : ℕ) (a b c : Control) (again : Option ℕ) → count ≤ most → b.work.cells ≡ a.work.cells → IfAgain address count b c again → IfAgain address most a c again
again_from address most count a b c None few same h = tt
again_from address most count a b c (Some letters) few same h = record {
  some = h.some;
  fewer = let less = h.fewer in omega (arith, less, few);
  waits = h.waits;
  more = subst (λ (cells : Address → List Cell). length (cells address) < length (c.work.cells address)) same h.more;
  bound = h.bound;
}
