-- Turns that are driven one by one never end by themselves.
use Rattle.std.proofs.Common.{◌≡◌, sym, subst, ℕ, ◌+◌, List, [], ◌∷◌, length, Bool, true, false, cond, not, slice_get, Option, Some, None, nat_lt, nat_le}
use Rattle.std.specs.Prelude.{◌^◌, ◌&&◌, ◌||◌}
use Rattle.sf_outside.specs.declared.ingress.IngressRecord.{IngressRecord}
use Rattle.sf_outside.specs.declared.call.Call.{Call}
use Rattle.sf_outside.specs.declared.call.Answered.{Answered}
use Rattle.typed_values.specs.declared.address.Address.{Address}
use Rattle.typed_values.specs.declared.letter.Letter.{Letter}
use Rattle.address_routing.specs.declared.module.Module.{Module}
use Rattle.address_routing.specs.declared.module.Endpoint.{Endpoint}
use Rattle.address_routing.specs.Routing.{splits_in, endpoint_of}
use Rattle.invocation.specs.declared.judging.Judged.{Judged}
use Rattle.invocation.specs.declared.judging.Judged.TheVariants.{Accept, Register, Flaw}
use Rattle.run_record.specs.declared.entry.Entry.{Entry}
use Rattle.typed_values.specs.declared.letter.Sender.TheVariants.{Function}
use Rattle.run_record.specs.declared.entry.Reply.{Reply}
use Rattle.run_record.specs.declared.entry.Step.TheVariants as step
use Rattle.run_record.specs.Machine.{served, declared}
use Rattle.partition_core.specs.declared.bounds.Bounds.{Bounds}
use Rattle.partition_core.specs.Batches.{batch_at}
use Rattle.statefun_driver.specs.declared.end.Broken.TheVariants as broken
use Rattle.statefun_driver.specs.declared.end.End.{End}
use Rattle.statefun_driver.specs.declared.end.End.TheVariants.{Done, TurnsSpent, RecordTooLarge, BatchTooLarge, EndpointFailed, Broke}
use Rattle.statefun_driver.specs.Seen.{Event, Read, Now, Start, Poll, Fails, Seen}
use Rattle.statefun_driver.specs.Turns.{Plan, Control, Phase, Reading, Asking, Opening, Waiting, Stopped, Asked, Came, Answers, Failed, IsAsked, at, quota, dues, goes_on}
use Rattle.statefun_driver.specs.Turns.{taken_in, is_done, finish, opening, bounds_of, opened_by, open_batch, serve_first, serve, send_due, read_from, read_on, read, attempts_at, tried_phase, with_reason}
use Rattle.statefun_driver.specs.Turns.{begun, take_record, size_of, longest, answered, settled, fated, came, wait, polled, patience_at, own_part, own_now, recorded, reply_to}
use Rattle.statefun_driver.specs.Traces.{Ends, IsEnd, turns}
use Rattle.statefun_driver.proofs.Tracing.{along}
use Rattle.checkpoint_drive.specs.Driven.{IsStop}

abbrev Goes : Phase → Type 0
Goes (Stopped end) = IsStop end
Goes phase = Unit {0}

tried_goes : (m : Module) (batch : Asked) → Goes (tried_phase m batch)
tried_goes m batch = by (nat_lt (length batch.reasons) (attempts_at m batch.address))
  where
    by : (t : Bool) → Goes (cond t (Opening batch) (Stopped (EndpointFailed batch.address batch.reasons)))
    by true = tt
    by false = tt

module _ (plan : Plan) (rests : plan.rests ≡ true) where
  finish_goes : (c : Control) → Goes (finish plan c).phase
  finish_goes c = by plan.rests rests (is_done c) (nat_lt c.turn plan.turns)
    where
      by : (b : Bool) → b ≡ true → (d t : Bool) → Goes (cond (not b && d) (Stopped (Done (taken_in c.entries))) (cond (b || t) Asking (Stopped (TurnsSpent (taken_in c.entries)))))
      by true e d t = tt
      by false e d t = absurd (let k : false ≡ true = e in cc)

  opening_goes : (bounds : Bounds) (address : Address) (batch : List Letter) (c : Control) → Goes (opening bounds address batch c).phase
  opening_goes bounds address [] c = tt
  opening_goes bounds address (letter ∷ batch) c = tt

  open_goes : (address : Address) (most : ℕ) (c : Control) → Goes (open_batch plan address most c).phase
  open_goes address most c = by (endpoint_of plan.routes address.kind)
    where
      by : (o : Option Endpoint) → Goes (opened_by plan address most c o).phase
      by None = finish_goes c
      by (Some endpoint) = opening_goes (bounds_of endpoint most) address (batch_at (bounds_of endpoint most) c.moment address c.work) c

  serve_goes : (c : Control) → Goes (serve plan c).phase
  serve_goes c = by (slice_get c.work.post.ready 0)
    where
      by : (o : Option Address) → Goes (serve_first plan c o).phase
      by None = finish_goes c
      by (Some address) = open_goes address (2 ^ 32) c

  from_goes : (split : ℕ) (c : Control) → Goes (read_from plan split c).phase
  from_goes split c = by (nat_lt split (splits_in plan.routes.ingresses))
    where
      by : (t : Bool) → Goes (cond t (at (Reading split 0) c) (serve plan (send_due plan.routes dues c))).phase
      by true = tt
      by false = serve_goes (send_due plan.routes dues c)

  on_goes : (split count : ℕ) (c : Control) → Goes (read_on plan split count c).phase
  on_goes split count c = by (nat_lt count quota)
    where
      by : (t : Bool) → Goes (cond t (at (Reading split count) c) (read_from plan (split + 1) (record c { left = true }))).phase
      by true = tt
      by false = from_goes (split + 1) (record c { left = true })

  read_goes : (split count : ℕ) (c : Control) (found : Option IngressRecord) → Goes (read plan split count c found).phase
  read_goes split count c None = from_goes (split + 1) c
  read_goes split count c (Some found) = by (nat_le (size_of found) longest)
    where
      by : (t : Bool) → Goes (cond t (read_on plan split (count + 1) (take_record plan.routes split found c)) (at (Stopped (RecordTooLarge split (c.counts split) (size_of found))) c)).phase
      by true = on_goes split (count + 1) (take_record plan.routes split found c)
      by false = tt

  answered_goes : (batch : Asked) (c : Control) (reply : Reply) (judged : Judged) → Goes c.phase → Goes (answered plan batch c reply judged).phase
  answered_goes batch c reply (Accept effects) g = finish_goes (recorded plan.routes (step.Batch reply) (served reply effects (own_now c (Function reply.address))) c)
  answered_goes batch c reply (Register specs) g =
      open_goes batch.address (length batch.letters) (recorded plan.routes (step.Register reply) (declared reply specs (own_now c (Function reply.address))) c)
  answered_goes batch c reply (Flaw flaw) g = g

  settled_goes : (batch : Asked) (call : Call) (c : Control) (what : Came) → Goes c.phase → Goes (settled plan batch call c what).phase
  settled_goes batch call c (Failed why) g = tried_goes plan.routes (with_reason batch why)
  settled_goes batch call c (Answers answer judged) g = answered_goes batch c (reply_to batch call c answer) judged g

  fated_goes : (batch : Asked) (call : Call) (c : Control) (told : Option Answered) → Goes c.phase → Goes (fated plan batch call c told).phase
  fated_goes batch call c told g = settled_goes batch call c (came plan.routes c batch.address told) g

  wait_goes : (batch : Asked) (call : Call) (polls : ℕ) (c : Control) → Goes c.phase → Goes (wait plan batch call polls c).phase
  wait_goes batch call polls c g = by (nat_lt polls (patience_at plan.routes batch.address))
    where
      by : (t : Bool) → Goes (cond t (at (Waiting batch call polls) c) (fated plan batch call c None)).phase
      by true = tt
      by false = fated_goes batch call c None g

  polled_goes : (batch : Asked) (call : Call) (polls : ℕ) (c : Control) (told : Option Answered) → Goes c.phase → Goes (polled plan batch call polls c told).phase
  polled_goes batch call polls c None g = wait_goes batch call (polls + 1) c g
  polled_goes batch call polls c (Some what) g = fated_goes batch call c (Some what) g

  one_goes : (phase : Phase) (c : Control) (event : Event) → IsAsked plan.routes phase c event → Goes c.phase → Goes (goes_on plan phase c event).phase
  one_goes (Stopped by) c event asked g = absurd asked
  one_goes Asking c (Fails by) asked g = tt
  one_goes (Reading split count) c (Fails by) asked g = tt
  one_goes (Opening batch) c (Fails by) asked g = tt
  one_goes (Waiting batch call polls) c (Fails by) asked g = tt
  one_goes Asking c (Now moment) asked g = from_goes 0 (begun moment c)
  one_goes (Reading split count) c (Read s offset found) asked g = read_goes split count c found
  one_goes (Opening batch) c (Start call url request) asked g = wait_goes batch call 0 (record c { calls = c.calls + 1 }) g
  one_goes (Waiting batch call polls) c (Poll outcome) asked g = polled_goes batch call polls c (own_part call outcome) g
  one_goes Asking c (Read s offset found) asked g = absurd asked
  one_goes Asking c (Start call url request) asked g = absurd asked
  one_goes Asking c (Poll outcome) asked g = absurd asked
  one_goes (Reading split count) c (Now moment) asked g = absurd asked
  one_goes (Reading split count) c (Start call url request) asked g = absurd asked
  one_goes (Reading split count) c (Poll outcome) asked g = absurd asked
  one_goes (Opening batch) c (Now moment) asked g = absurd asked
  one_goes (Opening batch) c (Read s offset found) asked g = absurd asked
  one_goes (Opening batch) c (Poll outcome) asked g = absurd asked
  one_goes (Waiting batch call polls) c (Now moment) asked g = absurd asked
  one_goes (Waiting batch call polls) c (Read s offset found) asked g = absurd asked
  one_goes (Waiting batch call polls) c (Start other url request) asked g = absurd asked

  stop_by : (phase : Phase) (end : End) → phase ≡ Stopped end → Goes phase → IsStop end
  stop_by phase end e g = subst Goes e g

  end_stops : (last : Control) (entries : List Entry) (end : End) → IsEnd last entries end → Goes last.phase → IsStop end
  end_stops last entries (Done taken) is g = stop_by last.phase (Done taken) is.0 g
  end_stops last entries (TurnsSpent taken) is g = stop_by last.phase (TurnsSpent taken) is.0 g
  end_stops last entries (RecordTooLarge split offset size) is g = tt
  end_stops last entries (BatchTooLarge address size limit) is g = tt
  end_stops last entries (EndpointFailed address reasons) is g = tt
  end_stops last entries (Broke broken.Ingress) is g = tt
  end_stops last entries (Broke broken.Link) is g = tt
  end_stops last entries (Broke broken.Memory) is g = tt

  pub driven_stops : (c : Control) (o : Seen) (entries : List Entry) (end : End) (q : Seen) → c.phase ≡ Asking → Ends plan c o entries end q → IsStop end
  driven_stops c o entries end q asks h =
      end_stops h.last entries end h.is_end
      (along (turns plan) (λ c p. Goes c.phase) (λ c p event r asked heard g. one_goes c.phase c event asked g) c o (h.leads).0 h.last q (h.leads).1 (subst Goes (sym asks) tt))
