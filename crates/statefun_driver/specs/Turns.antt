-- The turns of a run, as a machine that asks the outside one thing at a time.
use Rattle.std.specs.Prelude.{◌≡◌, ℕ, zero, suc, ◌+◌, ◌-◌, filter, nat_lt, nat_le, max, min, List, [], ◌∷◌, ◌++◌, length, map, take, slice_get, ◌^◌}
use Rattle.std.specs.Prelude.{Bool, true, false, not, ◌&&◌, ◌||◌, if◌then◌else◌, Option, Some, None}
use Rattle.std.specs.Option.{option_map_or}
use Rattle.proto_wire.specs.Message.{capped}
use Rattle.typed_values.specs.declared.address.Address.{Address}
use Rattle.typed_values.specs.declared.letter.Sender.{Sender}
use Rattle.typed_values.specs.declared.letter.Sender.TheVariants.{Split, Function}
use Rattle.typed_values.specs.declared.letter.Letter.{Letter}
use Rattle.typed_values.specs.declared.record.Delay.{Delay}
use Rattle.typed_values.specs.Delays.{due_at}
use Rattle.sf_outside.specs.declared.ingress.IngressRecord.{IngressRecord}
use Rattle.sf_outside.specs.declared.call.Call.{Call}
use Rattle.sf_outside.specs.declared.call.Answered.{Answered}
use Rattle.sf_outside.specs.declared.call.Answered.TheVariants as tells
use Rattle.sf_outside.specs.declared.call.Outcome.{Outcome}
use Rattle.request_reply.specs.declared.flaw.Reason.{Reason}
use Rattle.request_reply.specs.declared.flaw.Reason.TheVariants as reason
use Rattle.batch_queue.specs.Batches.{request_size}
use Rattle.address_routing.specs.declared.module.Module.{Module}
use Rattle.address_routing.specs.declared.module.Endpoint.{Endpoint}
use Rattle.address_routing.specs.Routing.{splits_in, endpoint_of, url_of}
use Rattle.invocation.specs.declared.judging.Judged.{Judged}
use Rattle.invocation.specs.declared.judging.Judged.TheVariants.{Accept, Register as Declare, Flaw}
use Rattle.invocation.specs.Judging.{judgement}
use Rattle.invocation.specs.Requests.{head_size}
use Rattle.run_record.specs.declared.entry.Entry.{Entry}
use Rattle.run_record.specs.declared.entry.Reply.{Reply}
use Rattle.run_record.specs.declared.entry.Step.{Step}
use Rattle.run_record.specs.declared.entry.Step.TheVariants as step
use Rattle.run_record.specs.Machine.{Act, Own, took, served, declared, sent_later}
use Rattle.run_record.specs.Backed.{same_call}
use Rattle.partition_core.specs.declared.bounds.Bounds.{Bounds}
use Rattle.partition_core.specs.Work.{Work, no_work, own_in, done, counted, is_idle}
use Rattle.partition_core.specs.Batches.{batch_at, opened_at, request_bytes}
use Rattle.statefun_driver.specs.declared.end.End.{End}
use Rattle.statefun_driver.specs.declared.end.End.TheVariants.{Done, TurnsSpent, RecordTooLarge, BatchTooLarge, EndpointFailed, Broke}
use Rattle.statefun_driver.specs.Seen.{Event, Read, Now, Start, Poll, Fails}

-- What is run: a module, for so many turns at most. Where it rests, no turn ends it by itself: who drives it says whether it
-- goes on.
pub record Plan : Type 0 where
  pub routes : Module
  pub turns : ℕ
  pub rests : Bool

-- what turns begin behind: the number of the last one, its moment, how many records were taken of each split, and the work left
pub record Origin : Type 0 where
  pub turn : ℕ
  pub moment : ℕ
  pub counts : ℕ → ℕ
  pub work : Work

-- nothing was done
abbrev pub no_origin : Origin
no_origin = record { turn = 0; moment = 0; counts = λ split. 0; work = no_work }

-- a batch that is asked for, and why the attempts at it so far failed
pub record Asked : Type 0 where
  pub address : Address
  pub letters : List Letter
  pub reasons : List Reason

-- what a run waits for
pub data Phase : Type 0 where
  -- the moment of the next turn
  Asking : Phase
  -- a record of a split, behind so many of it in this turn
  Reading : (split : ℕ) (count : ℕ) → Phase
  -- that the call of a batch is started
  Opening : (batch : Asked) → Phase
  -- what becomes of the call, behind so many polls that told nothing of it
  Waiting : (batch : Asked) (call : Call) (polls : ℕ) → Phase
  Stopped : (by : End) → Phase

pub record Control : Type 0 where
  -- the last turn that began
  pub turn : ℕ
  pub moment : ℕ
  -- how many calls were started in this turn
  pub calls : ℕ
  -- whether some split may have more records
  pub left : Bool
  -- how many records were taken of each split
  pub counts : ℕ → ℕ
  pub work : Work
  pub entries : List Entry
  -- how many of the entries stem from the turns before
  pub before : ℕ
  pub phase : Phase

abbrev pub at : Phase → Control → Control
at phase c = record c { phase = phase }

-- ---- steps

-- the first split's node is 0, and that of the partition stands behind the splits
abbrev pub node_of : Module → Step → ℕ
node_of m (step.Take split) = split
node_of m (step.Batch reply) = splits_in m.ingresses
node_of m (step.Register reply) = splits_in m.ingresses
node_of m (step.Due address moment) = splits_in m.ingresses

abbrev pub entry_of : Module → Control → Step → Entry
entry_of m c made = record { leg = c.turn; stamp = length c.entries - c.before + 1; node = node_of m made; step = made }

-- a step is made, and recorded
unfoldable pub recorded : Module → Step → Act → Control → Control
recorded m made act c = record c {
  counts = counted made act c.counts;
  work = done made act c.work;
  entries = c.entries ++ entry_of m c made ∷ [];
}

abbrev pub own_now : Control → Sender → Own
own_now c actor = own_in c.counts c.work actor

-- ---- the end of a turn

abbrev pub is_taking : Step → Bool
is_taking (step.Take split) = true
is_taking (step.Batch reply) = false
is_taking (step.Register reply) = false
is_taking (step.Due address moment) = false

abbrev pub is_take : Entry → Bool
is_take entry = is_taking entry.step

-- how many records a record of steps takes
unfoldable pub taken_in : List Entry → ℕ
taken_in entries = length (filter is_take entries)

-- behind so many turns: the next one, or the end
abbrev pub goes_on_behind : Plan → ℕ → Bool
goes_on_behind plan turns = plan.rests || nat_lt turns plan.turns

abbrev pub turns_phase : Plan → ℕ → List Entry → Phase
turns_phase plan turns entries = if goes_on_behind plan turns then Asking else Stopped (TurnsSpent (taken_in entries))

abbrev pub is_done : Control → Bool
is_done c = not c.left && is_idle c.work

abbrev pub ends_done : Plan → Control → Bool
ends_done plan c = not plan.rests && is_done c

abbrev pub finish_phase : Plan → Control → Phase
finish_phase plan c = if ends_done plan c then Stopped (Done (taken_in c.entries)) else turns_phase plan c.turn c.entries

abbrev pub finish : Plan → Control → Control
finish plan c = at (finish_phase plan c) c

-- ---- the begin of a turn

-- at the greatest moment so far
abbrev pub begun : ℕ → Control → Control
begun moment c = record c { turn = c.turn + 1; moment = max c.moment moment; calls = 0; left = false; before = length c.entries }

-- ---- the batch of a turn

-- where the first letter alone is too much for a request, there is no batch
abbrev pub opening : Bounds → Address → List Letter → Control → Control
opening bounds address [] c =
    let first = request_size (head_size address (c.work.cells address) c.moment) (take 1 (c.work.post.letters address)) in
    at (Stopped (BatchTooLarge address (capped first) bounds.max_bytes)) c
opening bounds address (letter ∷ letters) c = record c {
  work = opened_at address (letter ∷ letters) c.work;
  phase = Opening (record { address = address; letters = letter ∷ letters; reasons = [] });
}

-- a batch of at most so many letters
abbrev pub opened : Bounds → Address → Control → Control
opened bounds address c = opening bounds address (batch_at bounds c.moment address c.work) c

abbrev pub bounds_of : Endpoint → ℕ → Bounds
bounds_of endpoint most = record { max_letters = min endpoint.max_letters most; max_bytes = endpoint.max_bytes }

-- only addresses that have an endpoint have letters
abbrev pub opened_by : Plan → Address → ℕ → Control → Option Endpoint → Control
opened_by plan address most c None = finish plan c
opened_by plan address most c (Some endpoint) = opened (bounds_of endpoint most) address c

abbrev pub open_batch : Plan → Address → ℕ → Control → Control
open_batch plan address most c = opened_by plan address most c (endpoint_of plan.routes address.kind)

-- the address that has been ready longest is served
abbrev pub serve_first : Plan → Control → Option Address → Control
serve_first plan c None = finish plan c
serve_first plan c (Some address) = open_batch plan address (2 ^ 32) c

abbrev pub serve : Plan → Control → Control
serve plan c = serve_first plan c (slice_get c.work.post.ready 0)

-- ---- delayed letters that are due

-- at most so many are sent in a turn
unfoldable pub dues : ℕ
dues = 1024

abbrev pub due_recorded : Module → Delay × List Delay → Control → Control
due_recorded m due c =
    let sender = due.0.sender in recorded m (step.Due sender c.moment) (sent_later sender c.moment (own_now c (Function sender)) due) c

abbrev pub send_due : Module → ℕ → Control → Control
send_due m zero c = c
send_due m (suc n) c = option_map_or (λ due. send_due m n (due_recorded m due c)) (due_at c.moment c.work.delays) c

-- ---- records

-- at most so many records of a split are taken in a turn, of so many bytes at most
abbrev pub quota : ℕ
quota = 64

abbrev pub longest : ℕ
longest = 2 ^ 20

abbrev pub size_of : IngressRecord → ℕ
size_of found = length found.key + length found.value

-- from a split on: behind the last one, what is due is sent and a batch is served
abbrev pub read_from : Plan → ℕ → Control → Control
read_from plan split c =
    if nat_lt split (splits_in plan.routes.ingresses) then at (Reading split 0) c else serve plan (send_due plan.routes dues c)

abbrev pub take_record : Module → ℕ → IngressRecord → Control → Control
take_record m split found c = recorded m (step.Take split) (took m split (own_now c (Split split)) found) c

-- so many were taken of a split in this turn: it may have more
abbrev pub read_on : Plan → ℕ → ℕ → Control → Control
read_on plan split count c =
    if nat_lt count quota then at (Reading split count) c else read_from plan (split + 1) (record c { left = true })

abbrev pub read : Plan → ℕ → ℕ → Control → Option IngressRecord → Control
read plan split count c None = read_from plan (split + 1) c
read plan split count c (Some found) =
    if nat_le (size_of found) longest
    then read_on plan split (count + 1) (take_record plan.routes split found c)
    else at (Stopped (RecordTooLarge split (c.counts split) (size_of found))) c

-- ---- calls

abbrev pub call_of : Control → Call
call_of c = record { leg = c.turn; partition = 0; turn = c.calls }

-- what a poll told of a call
abbrev pub own_part : Call → Option Outcome → Option Answered
own_part call None = None
own_part call (Some outcome) = if same_call outcome.call call then Some outcome.what else None

-- what an attempt came to
pub data Came : Type 0 where
  Answers : (answer : List ℕ) (judged : Judged) → Came
  Failed : (why : Reason) → Came

abbrev pub came_of : List ℕ → Judged → Came
came_of answer (Accept effects) = Answers answer (Accept effects)
came_of answer (Declare specs) = Answers answer (Declare specs)
came_of answer (Flaw flaw) = Failed (reason.Refused answer flaw)

-- by what was told of its call: nothing, where it is late
abbrev pub came : Module → Control → Address → Option Answered → Came
came m c address None = Failed reason.Late
came m c address (Some (tells.Lost note)) = Failed (reason.Lost note)
came m c address (Some (tells.Answer answer)) = came_of answer (judgement m (c.work.cells address) address c.moment answer)

-- the same request goes again, as long as the endpoint has attempts left
abbrev pub attempts_at : Module → Address → ℕ
attempts_at m address = option_map_or (λ (endpoint : Endpoint). endpoint.attempts) (endpoint_of m address.kind) 0

abbrev pub tried_phase : Module → Asked → Phase
tried_phase m batch =
    if nat_lt (length batch.reasons) (attempts_at m batch.address) then Opening batch else Stopped (EndpointFailed batch.address batch.reasons)

abbrev pub with_reason : Asked → Reason → Asked
with_reason batch why = record batch { reasons = batch.reasons ++ why ∷ [] }

abbrev pub reply_to : Asked → Call → Control → List ℕ → Reply
reply_to batch call c answer =
    record { call = call; address = batch.address; moment = c.moment; picks = map (λ (letter : Letter). letter.sender) batch.letters; answer = answer }

-- A valid answer takes effect. Where it missed values, its letters go again, in a batch of as many letters at most.
abbrev pub answered : Plan → Asked → Control → Reply → Judged → Control
answered plan batch c reply (Accept effects) =
    finish plan (recorded plan.routes (step.Batch reply) (served reply effects (own_now c (Function reply.address))) c)
answered plan batch c reply (Declare specs) =
    let own = own_now c (Function reply.address) in
    open_batch plan batch.address (length batch.letters) (recorded plan.routes (step.Register reply) (declared reply specs own) c)
answered plan batch c reply (Flaw flaw) = c

abbrev pub settled : Plan → Asked → Call → Control → Came → Control
settled plan batch call c (Failed why) = at (tried_phase plan.routes (with_reason batch why)) c
settled plan batch call c (Answers answer judged) = answered plan batch c (reply_to batch call c answer) judged

abbrev pub fated : Plan → Asked → Call → Control → Option Answered → Control
fated plan batch call c told = settled plan batch call c (came plan.routes c batch.address told)

-- a call is late behind as many polls as its endpoint has patience
abbrev pub patience_at : Module → Address → ℕ
patience_at m address = option_map_or (λ (endpoint : Endpoint). endpoint.patience) (endpoint_of m address.kind) 0

abbrev pub wait : Plan → Asked → Call → ℕ → Control → Control
wait plan batch call polls c =
    if nat_lt polls (patience_at plan.routes batch.address) then at (Waiting batch call polls) c else fated plan batch call c None

abbrev pub polled : Plan → Asked → Call → ℕ → Control → Option Answered → Control
polled plan batch call polls c None = wait plan batch call (polls + 1) c
polled plan batch call polls c (Some what) = fated plan batch call c (Some what)

-- ---- the machine

-- what a run asks in a phase
abbrev pub IsAsked : Module → Phase → Control → Event → Type 0
IsAsked m (Stopped by) c event = ⊥
IsAsked m phase c (Fails by) = Unit {0}
IsAsked m Asking c (Now moment) = Unit {0}
IsAsked m (Reading split count) c (Read s offset found) = (s ≡ split) × (offset ≡ c.counts split)
IsAsked m (Opening batch) c (Start call url request) =
    (call ≡ call_of c) × (Some url ≡ url_of m batch.address.kind)
    × (request ≡ request_bytes batch.address (c.work.cells batch.address) c.moment batch.letters)
IsAsked m (Waiting batch call polls) c (Poll outcome) = Unit {0}
IsAsked m phase c event = ⊥

-- where it goes on at an event
abbrev pub goes_on : Plan → Phase → Control → Event → Control
goes_on plan (Stopped by) c event = c
goes_on plan phase c (Fails by) = at (Stopped (Broke by)) c
goes_on plan Asking c (Now moment) = read_from plan 0 (begun moment c)
goes_on plan (Reading split count) c (Read s offset found) = read plan split count c found
goes_on plan (Opening batch) c (Start call url request) = wait plan batch call 0 (record c { calls = c.calls + 1 })
goes_on plan (Waiting batch call polls) c (Poll outcome) = polled plan batch call polls c (own_part call outcome)
goes_on plan phase c event = c

-- nothing is recorded yet
abbrev pub rested : Origin → Control
rested start = record {
  turn = start.turn;
  moment = start.moment;
  calls = 0;
  left = false;
  counts = start.counts;
  work = start.work;
  entries = [];
  before = 0;
  phase = Asking;
}

abbrev pub first_control : Plan → Origin → Control
first_control plan start = at (turns_phase plan start.turn []) (rested start)

-- what turns begin behind that are made from here on
abbrev pub origin_of : Control → Origin
origin_of c = record { turn = c.turn; moment = c.moment; counts = c.counts; work = c.work }
