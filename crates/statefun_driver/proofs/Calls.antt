-- What a call leads to: its start, its polls and what becomes of it.
use Rattle.std.proofs.Common.{◌≡◌, ℕ, ◌+◌, ◌<◌, ◌≤◌, refl, sym, ap, subst, List, Bool, true, false, cond, Option, Some, None, lt-ltb, le-ltb}
use Rattle.std.specs.Prelude.{nat_lt}
use Rattle.sf_outside.specs.declared.call.Call.{Call}
use Rattle.sf_outside.specs.declared.call.Outcome.{Outcome}
use Rattle.sf_outside.specs.declared.call.Answered.{Answered}
use Rattle.sf_outside.specs.declared.call.Answered.TheVariants as tells
use Rattle.address_routing.specs.Routing.{url_of}
use Rattle.invocation.specs.declared.judging.Judged.{Judged}
use Rattle.invocation.specs.declared.judging.Judged.TheVariants.{Accept, Register as Declare, Flaw}
use Rattle.invocation.specs.Judging.{judgement}
use Rattle.run_record.specs.declared.entry.Step.TheVariants as step
use Rattle.run_record.specs.Machine.{declared}
use Rattle.typed_values.specs.declared.letter.Sender.TheVariants.{Function}
use Rattle.partition_core.specs.Batches.{request_bytes}
use Rattle.statefun_driver.specs.declared.end.Broken.{Broken}
use Rattle.statefun_driver.specs.declared.end.End.TheVariants.{Broke}
use Rattle.statefun_driver.specs.Seen.{Seen, Start, Poll, HearsStart, HearsPoll, HearsFail}
use Rattle.statefun_driver.specs.Turns.{Plan, Control, Phase, Opening, Waiting, Asked, at, recorded, own_now, call_of, own_part, came_of, settled, reply_to, fated, wait, polled, patience_at}
use Rattle.statefun_driver.specs.Traces.{Leads, Ends}
use Rattle.statefun_driver.proofs.Leading.{leads_none, leads_on, ends_failing}
use Rattle.statefun_driver.proofs.Phases.{open_phase}

-- ---- what becomes of a call does not ask for the phase

same_came : (plan : Plan) (batch : Asked) (call : Call) (phase : Phase) (c : Control) (answer : List ℕ) (judged : Judged) → settled plan batch call (at phase c) (came_of answer judged) ≡ settled plan batch call c (came_of answer judged)
unfolding recorded
same_came plan batch call phase c answer (Accept effects) = refl
same_came plan batch call phase c answer (Declare specs) =
    let reply = reply_to batch call c answer in
    open_phase plan batch.address _ phase (recorded plan.routes (step.Register reply) (declared reply specs (own_now c (Function reply.address))) c)
same_came plan batch call phase c answer (Flaw flaw) = refl

pub same_fate : (plan : Plan) (batch : Asked) (call : Call) (phase : Phase) (c : Control) (told : Option Answered) → fated plan batch call (at phase c) told ≡ fated plan batch call c told
same_fate plan batch call phase c None = refl
same_fate plan batch call phase c (Some (tells.Lost note)) = refl
same_fate plan batch call phase c (Some (tells.Answer answer)) = same_came plan batch call phase c answer (judgement plan.routes (c.work.cells batch.address) batch.address c.moment answer)

wait_phase : (plan : Plan) (batch : Asked) (call : Call) (k : ℕ) (phase : Phase) (c : Control) → wait plan batch call k (at phase c) ≡ wait plan batch call k c
wait_phase plan batch call k phase c = by (nat_lt k (patience_at plan.routes batch.address))
  where
    by : (t : Bool) → cond t (at (Waiting batch call k) (at phase c)) (fated plan batch call (at phase c) None) ≡ cond t (at (Waiting batch call k) c) (fated plan batch call c None)
    by true = refl
    by false = same_fate plan batch call phase c None

-- ---- polls

-- a call is waited for, and so many polls told nothing
pub record Waits (plan : Plan) (a : Control) (o : Seen) (batch : Asked) (call : Call) (k : ℕ) (c : Control) (p : Seen) : Type 0 where
  pub leads : Leads plan a o (wait plan batch call k c) p
  pub few : k < patience_at plan.routes batch.address

waits : (plan : Plan) (a : Control) (o : Seen) (batch : Asked) (call : Call) (k : ℕ) (c : Control) (p : Seen) → Waits plan a o batch call k c p → Leads plan a o (at (Waiting batch call k) c) p
waits plan a o batch call k c p h =
    subst (λ (x : Control). Leads plan a o x p) (ap (λ b. cond b (at (Waiting batch call k) c) (fated plan batch call c None)) (lt-ltb k (patience_at plan.routes batch.address) h.few)) h.leads

pub poll_failed : (plan : Plan) (a : Control) (o : Seen) (batch : Asked) (call : Call) (k : ℕ) (c : Control) (p : Seen) (by : Broken) (q : Seen) → Waits plan a o batch call k c p → HearsFail by p q → Ends plan a o c.entries (Broke by) q
poll_failed plan a o batch call k c p by q h heard = ends_failing plan a o (at (Waiting batch call k) c) p by q (waits plan a o batch call k c p h) tt heard

-- a poll, and what it told of the call
pub record IsPoll (call : Call) (told : Option Answered) (p q : Seen) : Type 0 where
  pub outcome : Option Outcome
  pub own : told ≡ own_part call outcome
  pub heard : HearsPoll outcome p q

poll_own : (plan : Plan) (a : Control) (o : Seen) (batch : Asked) (call : Call) (k : ℕ) (c : Control) (p : Seen) (told : Option Answered) (q : Seen) → Waits plan a o batch call k c p → IsPoll call told p q → Leads plan a o (polled plan batch call k (at (Waiting batch call k) c) told) q
poll_own plan a o batch call k c p told q h r =
    subst (λ (t : Option Answered). Leads plan a o (polled plan batch call k (at (Waiting batch call k) c) t) q) (sym r.own)
    (leads_on plan a o (at (Waiting batch call k) c) p (Poll r.outcome) q (waits plan a o batch call k c p h) tt r.heard)

pub poll_told : (plan : Plan) (a : Control) (o : Seen) (batch : Asked) (call : Call) (k : ℕ) (c : Control) (p : Seen) (what : Answered) (q : Seen) → Waits plan a o batch call k c p → IsPoll call (Some what) p q → Leads plan a o (fated plan batch call c (Some what)) q
poll_told plan a o batch call k c p what q h r = subst (λ (x : Control). Leads plan a o x q) (same_fate plan batch call (Waiting batch call k) c (Some what)) (poll_own plan a o batch call k c p (Some what) q h r)

pub poll_nothing : (plan : Plan) (a : Control) (o : Seen) (batch : Asked) (call : Call) (k : ℕ) (c : Control) (p q : Seen) → Waits plan a o batch call k c p → IsPoll call None p q → Leads plan a o (wait plan batch call (k + 1) c) q
poll_nothing plan a o batch call k c p q h r = subst (λ (x : Control). Leads plan a o x q) (wait_phase plan batch call (k + 1) (Waiting batch call k) c) (poll_own plan a o batch call k c p None q h r)

pub late : (plan : Plan) (a : Control) (o : Seen) (batch : Asked) (call : Call) (k : ℕ) (c : Control) (p : Seen) → patience_at plan.routes batch.address ≤ k → Leads plan a o (wait plan batch call k c) p → Leads plan a o (fated plan batch call c None) p
late plan a o batch call k c p h leads =
    subst (λ (x : Control). Leads plan a o x p) (ap (λ b. cond b (at (Waiting batch call k) c) (fated plan batch call c None)) (le-ltb k (patience_at plan.routes batch.address) h)) leads

-- ---- the start

pub record IsStart (plan : Plan) (batch : Asked) (call : Call) (c : Control) (o p : Seen) : Type 0 where
  pub url : List ℕ
  pub request : List ℕ
  pub own : call ≡ call_of c
  pub place : Some url ≡ url_of plan.routes batch.address.kind
  pub what : request ≡ request_bytes batch.address (c.work.cells batch.address) c.moment batch.letters
  pub heard : HearsStart call url request o p

pub call_started : (plan : Plan) (batch : Asked) (call : Call) (c : Control) (o p : Seen) → IsStart plan batch call c o p → Leads plan (at (Opening batch) c) o (wait plan batch call 0 (record c { calls = c.calls + 1 })) p
call_started plan batch call c o p s =
    subst (λ (x : Control). Leads plan (at (Opening batch) c) o x p) (wait_phase plan batch call 0 (Opening batch) (record c { calls = c.calls + 1 }))
    (leads_on plan (at (Opening batch) c) o (at (Opening batch) c) o (Start call s.url s.request) p (leads_none plan (at (Opening batch) c) o) (s.own, s.place, s.what) s.heard)
