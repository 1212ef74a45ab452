-- Phases that the turns come to by themselves.
use Rattle.std.proofs.Common.{ℕ, ◌+◌, List, [], ◌∷◌, length, Bool, true, false, cond, slice_get, Option, Some, None, nat_lt}
use Rattle.std.specs.Prelude.{◌^◌}
use Rattle.typed_values.specs.declared.address.Address.{Address}
use Rattle.typed_values.specs.declared.letter.Letter.{Letter}
use Rattle.address_routing.specs.declared.module.Module.{Module}
use Rattle.address_routing.specs.declared.module.Endpoint.{Endpoint}
use Rattle.address_routing.specs.Routing.{splits_in, endpoint_of}
use Rattle.partition_core.specs.declared.bounds.Bounds.{Bounds}
use Rattle.partition_core.specs.Batches.{batch_at}
use Rattle.statefun_driver.specs.declared.end.End.TheVariants.{Done, TurnsSpent, BatchTooLarge, EndpointFailed}
use Rattle.statefun_driver.specs.Turns.{Plan, Control, Phase, Reading, Asking, Opening, Stopped, Asked, at, quota, dues}
use Rattle.statefun_driver.specs.Turns.{taken_in, ends_done, goes_on_behind, finish, opening, bounds_of, opened_by, open_batch, serve_first, serve, send_due, read_from, read_on, attempts_at, tried_phase}
use Rattle.statefun_driver.specs.Traces.{IsUnbroken}

pub record Rests (F : Phase → Type 0) : Type 0 where
  pub asking : F Asking
  pub reading : (split count : ℕ) → F (Reading split count)
  pub opening : (batch : Asked) → F (Opening batch)
  pub done : (taken : ℕ) → F (Stopped (Done taken))
  pub spent : (taken : ℕ) → F (Stopped (TurnsSpent taken))
  pub large : (address : Address) (size limit : ℕ) → F (Stopped (BatchTooLarge address size limit))

pub unbroken_rests : Rests IsUnbroken
unbroken_rests = record { asking = tt; reading = λ split count. tt; opening = λ batch. tt; done = λ taken. tt; spent = λ taken. tt; large = λ address size limit. tt }

pub tried_unbroken : (m : Module) (batch : Asked) → IsUnbroken (tried_phase m batch)
tried_unbroken m batch = by (nat_lt (length batch.reasons) (attempts_at m batch.address))
  where
    by : (t : Bool) → IsUnbroken (cond t (Opening batch) (Stopped (EndpointFailed batch.address batch.reasons)))
    by true = tt
    by false = tt

module _ (F : Phase → Type 0) (rests : Rests F) (plan : Plan) where
  pub rest_finish : (c : Control) → F (finish plan c).phase
  rest_finish c = by (ends_done plan c) (goes_on_behind plan c.turn)
    where
      by : (t u : Bool) → F (cond t (Stopped (Done (taken_in c.entries))) (cond u Asking (Stopped (TurnsSpent (taken_in c.entries)))))
      by true u = rests.done (taken_in c.entries)
      by false true = rests.asking
      by false false = rests.spent (taken_in c.entries)

  rest_opening : (bounds : Bounds) (address : Address) (batch : List Letter) (c : Control) → F (opening bounds address batch c).phase
  rest_opening bounds address [] c = rests.large address _ bounds.max_bytes
  rest_opening bounds address (letter ∷ batch) c = rests.opening _

  pub rest_open : (address : Address) (most : ℕ) (c : Control) → F (open_batch plan address most c).phase
  rest_open address most c = by (endpoint_of plan.routes address.kind)
    where
      by : (o : Option Endpoint) → F (opened_by plan address most c o).phase
      by None = rest_finish c
      by (Some endpoint) = rest_opening (bounds_of endpoint most) address (batch_at (bounds_of endpoint most) c.moment address c.work) c

  pub rest_serve : (c : Control) → F (serve plan c).phase
  rest_serve c = by (slice_get c.work.post.ready 0)
    where
      by : (o : Option Address) → F (serve_first plan c o).phase
      by None = rest_finish c
      by (Some address) = rest_open address (2 ^ 32) c

  pub rest_read : (split : ℕ) (c : Control) → F (read_from plan split c).phase
  rest_read split c = by (nat_lt split (splits_in plan.routes.ingresses))
    where
      by : (t : Bool) → F (cond t (at (Reading split 0) c) (serve plan (send_due plan.routes dues c))).phase
      by true = rests.reading split 0
      by false = rest_serve (send_due plan.routes dues c)

  pub rest_read_on : (split count : ℕ) (c : Control) → F (read_on plan split count c).phase
  rest_read_on split count c = by (nat_lt count quota)
    where
      by : (t : Bool) → F (cond t (at (Reading split count) c) (read_from plan (split + 1) (record c { left = true }))).phase
      by true = rests.reading split count
      by false = rest_read (split + 1) (record c { left = true })
