-- What one event does, case by case: each law over runs goes over these cases.
use Rattle.std.proofs.Common.{◌≡◌, ℕ, ◌+◌, ◌<◌, ◌≤◌, refl, sym, ◌∙◌, ap, subst, List, length, Bool, true, false, cond, Option, Some, None, lt-ltb, ltb-false}
use Rattle.std.specs.Prelude.{nat_lt, nat_le}
use Rattle.sf_outside.specs.declared.ingress.IngressRecord.{IngressRecord}
use Rattle.sf_outside.specs.declared.call.Call.{Call}
use Rattle.sf_outside.specs.declared.call.Outcome.{Outcome}
use Rattle.sf_outside.specs.declared.call.Answered.{Answered}
use Rattle.sf_outside.specs.declared.call.Answered.TheVariants as tells
use Rattle.typed_values.specs.declared.cell.CellSpec.{CellSpec}
use Rattle.typed_values.specs.declared.letter.Sender.TheVariants.{Function}
use Rattle.request_reply.specs.declared.flaw.Reason.{Reason}
use Rattle.request_reply.specs.declared.flaw.Reason.TheVariants as reason
use Rattle.address_routing.specs.Routing.{url_of}
use Rattle.invocation.specs.declared.effects.Effects.{Effects}
use Rattle.invocation.specs.declared.judging.Judged.{Judged}
use Rattle.invocation.specs.declared.judging.Judged.TheVariants.{Accept, Register as Declare, Flaw}
use Rattle.invocation.specs.Judging.{judgement}
use Rattle.run_record.specs.declared.entry.Step.TheVariants as step
use Rattle.run_record.specs.Machine.{served, declared}
use Rattle.partition_core.specs.Batches.{request_bytes}
use Rattle.statefun_driver.specs.declared.end.Broken.{Broken}
use Rattle.statefun_driver.specs.declared.end.End.TheVariants.{RecordTooLarge, Broke}
use Rattle.statefun_driver.specs.Seen.{Event, Read, Now, Start, Poll, Fails}
use Rattle.statefun_driver.specs.Turns.{Plan, Control, Phase, Reading, Asking, Opening, Waiting, Stopped, Asked, Failed, IsAsked}
use Rattle.statefun_driver.specs.Turns.{at, goes_on, begun, read_from, read_on, take_record, size_of, longest, recorded, own_now, finish, open_batch, call_of, own_part, came_of, came}
use Rattle.statefun_driver.specs.Turns.{tried_phase, with_reason, reply_to, settled, fated, wait, polled, patience_at}

-- behind a record that was taken, an accepted result, and an answer that misses values
abbrev pub behind_take : Plan → ℕ → ℕ → IngressRecord → Control → Control
behind_take plan split count found c = read_on plan split (count + 1) (take_record plan.routes split found c)

abbrev pub accepted : Plan → Asked → Call → List ℕ → Effects → Control → Control
accepted plan batch call answer effects c =
    let reply = reply_to batch call c answer in recorded plan.routes (step.Batch reply) (served reply effects (own_now c (Function batch.address))) c

abbrev pub missed : Plan → Asked → Call → List ℕ → List CellSpec → Control → Control
missed plan batch call answer specs c =
    let reply = reply_to batch call c answer in recorded plan.routes (step.Register reply) (declared reply specs (own_now c (Function batch.address))) c

-- the phase says what is waited for, and by whom
abbrev pub Judges : Plan → Asked → Control → List ℕ → Judged → Type 0
Judges plan batch c answer judged = judgement plan.routes (c.work.cells batch.address) batch.address c.moment answer ≡ judged

pub data Moved (plan : Plan) (c : Control) : Event → Control → Type 0 where
  BrokeOff : (by : Broken) → Moved plan c (Fails by) (at (Stopped (Broke by)) c)
  ReadNone : (split count offset : ℕ) → c.phase ≡ Reading split count → offset ≡ c.counts split → Moved plan c (Read split offset None) (read_from plan (split + 1) c)
  ReadLarge : (split count offset : ℕ) (found : IngressRecord) → c.phase ≡ Reading split count → nat_le (size_of found) longest ≡ false → Moved plan c (Read split offset (Some found)) (at (Stopped (RecordTooLarge split (c.counts split) (size_of found))) c)
  Took : (split count offset : ℕ) (found : IngressRecord) → c.phase ≡ Reading split count → offset ≡ c.counts split → Moved plan c (Read split offset (Some found)) (behind_take plan split count found c)
  SawMoment : (moment : ℕ) → c.phase ≡ Asking → Moved plan c (Now moment) (read_from plan 0 (begun moment c))
  Began : (batch : Asked) (url request : List ℕ) → c.phase ≡ Opening batch → Some url ≡ url_of plan.routes batch.address.kind → request ≡ request_bytes batch.address (c.work.cells batch.address) c.moment batch.letters
      → Moved plan c (Start (call_of c) url request) (at (Waiting batch (call_of c) 0) (record c { calls = c.calls + 1 }))
  PolledNone : (batch : Asked) (call : Call) (k : ℕ) (outcome : Option Outcome) → c.phase ≡ Waiting batch call k → Moved plan c (Poll outcome) (at (Waiting batch call (k + 1)) c)
  FailedBy : (batch : Asked) (call : Call) (k : ℕ) (outcome : Option Outcome) (why : Reason) → c.phase ≡ Waiting batch call k → came plan.routes c batch.address (own_part call outcome) ≡ Failed why
      → (own_part call outcome ≡ None → patience_at plan.routes batch.address ≤ k + 1) → Moved plan c (Poll outcome) (at (tried_phase plan.routes (with_reason batch why)) c)
  Accepts : (batch : Asked) (call : Call) (k : ℕ) (outcome : Option Outcome) (answer : List ℕ) (effects : Effects) → c.phase ≡ Waiting batch call k → own_part call outcome ≡ Some (tells.Answer answer)
      → Judges plan batch c answer (Accept effects) → Moved plan c (Poll outcome) (finish plan (accepted plan batch call answer effects c))
  Misses : (batch : Asked) (call : Call) (k : ℕ) (outcome : Option Outcome) (answer : List ℕ) (specs : List CellSpec) → c.phase ≡ Waiting batch call k → own_part call outcome ≡ Some (tells.Answer answer)
      → Judges plan batch c answer (Declare specs) → Moved plan c (Poll outcome) (open_batch plan batch.address (length batch.letters) (missed plan batch call answer specs c))

to : (plan : Plan) (c : Control) (event : Event) (a b : Control) → a ≡ b → Moved plan c event a → Moved plan c event b
to plan c event a b e m = subst (λ (x : Control). Moved plan c event x) e m

-- ---- reading

row_by : (plan : Plan) (c : Control) (split count offset : ℕ) (found : IngressRecord) (b : Bool) → nat_le (size_of found) longest ≡ b → c.phase ≡ Reading split count → offset ≡ c.counts split
    → Moved plan c (Read split offset (Some found)) (cond b (behind_take plan split count found c) (at (Stopped (RecordTooLarge split (c.counts split) (size_of found))) c))
row_by plan c split count offset found true small e is = Took split count offset found e is
row_by plan c split count offset found false large e is = ReadLarge split count offset found e large

read_by : (plan : Plan) (c : Control) (split count s offset : ℕ) (found : Option IngressRecord) → c.phase ≡ Reading split count → s ≡ split → offset ≡ c.counts split → Moved plan c (Read s offset found) (goes_on plan (Reading split count) c (Read s offset found))
read_by plan c split count s offset None e same is = subst (λ (x : ℕ). Moved plan c (Read x offset None) (read_from plan (split + 1) c)) (sym same) (ReadNone split count offset e is)
read_by plan c split count s offset (Some found) e same is =
    subst (λ (x : ℕ). Moved plan c (Read x offset (Some found)) (goes_on plan (Reading split count) c (Read s offset (Some found)))) (sym same)
    (row_by plan c split count offset found (nat_le (size_of found) longest) refl e is)

-- ---- calls

start_by : (plan : Plan) (c : Control) (batch : Asked) (call : Call) (url request : List ℕ) → 0 < patience_at plan.routes batch.address → c.phase ≡ Opening batch → IsAsked plan.routes (Opening batch) c (Start call url request)
    → Moved plan c (Start call url request) (wait plan batch call 0 (record c { calls = c.calls + 1 }))
start_by plan c batch call url request p e asked =
    subst (λ (x : Call). Moved plan c (Start x url request) (wait plan batch x 0 (record c { calls = c.calls + 1 }))) (sym asked.0)
    (to plan c (Start (call_of c) url request) (at (Waiting batch (call_of c) 0) next) (wait plan batch (call_of c) 0 next)
    (sym (ap (λ b. cond b (at (Waiting batch (call_of c) 0) next) (fated plan batch (call_of c) next None)) (lt-ltb 0 (patience_at plan.routes batch.address) p)))
    (Began batch url request e asked.1 asked.2))
  where
    next : Control
    next = record c { calls = c.calls + 1 }

answer_by : (plan : Plan) (c : Control) (batch : Asked) (call : Call) (k : ℕ) (outcome : Option Outcome) (answer : List ℕ) (judged : Judged) → c.phase ≡ Waiting batch call k → own_part call outcome ≡ Some (tells.Answer answer)
    → Judges plan batch c answer judged → Moved plan c (Poll outcome) (settled plan batch call c (came_of answer judged))
answer_by plan c batch call k outcome answer (Accept effects) e own is = Accepts batch call k outcome answer effects e own is
answer_by plan c batch call k outcome answer (Declare specs) e own is = Misses batch call k outcome answer specs e own is
answer_by plan c batch call k outcome answer (Flaw flaw) e own is =
    FailedBy batch call k outcome (reason.Refused answer flaw) e (ap (came plan.routes c batch.address) own ∙ ap (came_of answer) is) (λ n. absurd (none_some (tells.Answer answer) (sym n ∙ own)))
  where
    none_some : (what : Answered) → None ≡ Some what → ⊥
    none_some what h = cc

wait_by : (plan : Plan) (c : Control) (batch : Asked) (call : Call) (k : ℕ) (outcome : Option Outcome) (b : Bool) → nat_lt (k + 1) (patience_at plan.routes batch.address) ≡ b → own_part call outcome ≡ None → c.phase ≡ Waiting batch call k
    → Moved plan c (Poll outcome) (cond b (at (Waiting batch call (k + 1)) c) (fated plan batch call c None))
wait_by plan c batch call k outcome true l own e = PolledNone batch call k outcome e
wait_by plan c batch call k outcome false l own e =
    FailedBy batch call k outcome reason.Late e (ap (came plan.routes c batch.address) own) (λ n. ltb-false (k + 1) (patience_at plan.routes batch.address) l)

poll_by : (plan : Plan) (c : Control) (batch : Asked) (call : Call) (k : ℕ) (outcome : Option Outcome) (told : Option Answered) → own_part call outcome ≡ told → c.phase ≡ Waiting batch call k → Moved plan c (Poll outcome) (polled plan batch call k c told)
poll_by plan c batch call k outcome None own e = wait_by plan c batch call k outcome (nat_lt (k + 1) (patience_at plan.routes batch.address)) refl own e
poll_by plan c batch call k outcome (Some (tells.Lost note)) own e =
    FailedBy batch call k outcome (reason.Lost note) e (ap (came plan.routes c batch.address) own) (λ n. absurd (none_some (tells.Lost note) (sym n ∙ own)))
  where
    none_some : (what : Answered) → None ≡ Some what → ⊥
    none_some what h = cc
poll_by plan c batch call k outcome (Some (tells.Answer answer)) own e =
    answer_by plan c batch call k outcome answer (judgement plan.routes (c.work.cells batch.address) batch.address c.moment answer) e own refl

-- ---- all

-- a call that is started may be waited for
abbrev pub IsPatient : Plan → Phase → Type 0
IsPatient plan (Opening batch) = 0 < patience_at plan.routes batch.address
IsPatient plan phase = Unit {0}

move_by : (plan : Plan) (c : Control) (phase : Phase) (event : Event) → IsPatient plan phase → c.phase ≡ phase → IsAsked plan.routes phase c event → Moved plan c event (goes_on plan phase c event)
move_by plan c (Stopped end) event p e asked = absurd asked
move_by plan c Asking (Fails by) p e asked = BrokeOff by
move_by plan c (Reading split count) (Fails by) p e asked = BrokeOff by
move_by plan c (Opening batch) (Fails by) p e asked = BrokeOff by
move_by plan c (Waiting batch call k) (Fails by) p e asked = BrokeOff by
move_by plan c Asking (Now moment) p e asked = SawMoment moment e
move_by plan c (Reading split count) (Read s offset found) p e asked = read_by plan c split count s offset found e asked.0 asked.1
move_by plan c (Opening batch) (Start call url request) p e asked = start_by plan c batch call url request p e asked
move_by plan c (Waiting batch call k) (Poll outcome) p e asked = poll_by plan c batch call k outcome (own_part call outcome) refl e
move_by plan c Asking (Read s offset found) p e asked = absurd asked
move_by plan c Asking (Start call url request) p e asked = absurd asked
move_by plan c Asking (Poll outcome) p e asked = absurd asked
move_by plan c (Reading split count) (Now moment) p e asked = absurd asked
move_by plan c (Reading split count) (Start call url request) p e asked = absurd asked
move_by plan c (Reading split count) (Poll outcome) p e asked = absurd asked
move_by plan c (Opening batch) (Now moment) p e asked = absurd asked
move_by plan c (Opening batch) (Read s offset found) p e asked = absurd asked
move_by plan c (Opening batch) (Poll outcome) p e asked = absurd asked
move_by plan c (Waiting batch call k) (Now moment) p e asked = absurd asked
move_by plan c (Waiting batch call k) (Read s offset found) p e asked = absurd asked
move_by plan c (Waiting batch call k) (Start other url request) p e asked = absurd asked

pub moves : (plan : Plan) (c : Control) (event : Event) → IsPatient plan c.phase → IsAsked plan.routes c.phase c event → Moved plan c event (goes_on plan c.phase c event)
moves plan c event p asked = move_by plan c c.phase event p refl asked
