-- What a run comes to: one list of events, of which all is said.
use Rattle.std.specs.Prelude.{◌≡◌, ◌≤◌, ◌<◌, ◌+◌, ℕ, true, List, [], ◌∷◌, length, Option, Some, None, IfSome, Contains, take}
use Rattle.std.specs.Option.{option_map}
use Rattle.std.specs.List.{AllByRecursion, IsDistinct, flat_map}
use Rattle.proto_wire.specs.Message.{capped}
use Rattle.batch_queue.specs.Batches.{request_size}
use Rattle.invocation.specs.Requests.{head_size}
use Rattle.sf_outside.specs.Told.{more, Rose}
use Rattle.sf_outside.specs.Splits.{Lists, split_of, record_at}
use Rattle.sf_outside.specs.declared.call.Call.{Call}
use Rattle.sf_outside.specs.declared.call.Answered.{Answered}
use Rattle.sf_outside.specs.declared.call.LinkEvent.{LinkEvent}
use Rattle.sf_outside.specs.declared.call.LinkEvent.TheVariants.{Started, Polled}
use Rattle.sf_outside.specs.declared.call.Exchange.{Exchange}
use Rattle.typed_values.specs.declared.address.Address.{Address}
use Rattle.address_routing.specs.declared.module.Module.{Module}
use Rattle.address_routing.specs.declared.module.Endpoint.{Endpoint}
use Rattle.address_routing.specs.Routing.{splits_in, endpoint_of}
use Rattle.run_record.specs.declared.entry.Entry.{Entry}
use Rattle.run_record.specs.Machine.{State, first_state}
use Rattle.run_record.specs.Record.{replayed}
use Rattle.run_record.specs.Egress.{egress_of}
use Rattle.run_record.specs.Backed.{AreBacked, calls_of, same_call}
use Rattle.partition_core.specs.Work.{state_of, is_idle}
use Rattle.statefun_driver.specs.declared.end.Broken.TheVariants.{Ingress, Link, Memory}
use Rattle.statefun_driver.specs.declared.end.End.{End}
use Rattle.statefun_driver.specs.declared.end.End.TheVariants.{Done, TurnsSpent, RecordTooLarge, BatchTooLarge, EndpointFailed, Broke}
use Rattle.statefun_driver.specs.Seen.{Event, Read, Start, Poll, Seen, IsCause}
use Rattle.statefun_driver.specs.Turns.{Plan, Control, Phase, Reading, Opening, Waiting, Stopped, Came, Answers, Failed}
use Rattle.statefun_driver.specs.Turns.{no_origin, first_control, goes_on, came, own_part, longest, size_of, patience_at, attempts_at}
use Rattle.statefun_driver.specs.Traces.{Trace, IsEnd}

-- ---- what the events were

abbrev pub link_part : Event → List LinkEvent
link_part (Start call url request) = Started call url request ∷ []
link_part (Poll outcome) = Polled outcome ∷ []
link_part event = []

-- what the link did in some events
abbrev pub link_events : List Event → List LinkEvent
link_events events = flat_map link_part events

-- a record that was read stands in the list
abbrev pub IsRead : Lists → Event → Type 0
IsRead told (Read split offset (Some found)) = record_at told split offset ≡ Some found
IsRead told event = Unit {0}

abbrev pub AreRead : Lists → List Event → Type 0
AreRead told [] = Unit {0}
AreRead told (event ∷ events) = IsRead told event × AreRead told events

-- ---- the record

-- each of its steps is allowed
abbrev pub HasState : Module → Lists → List Entry → Type 0
HasState m told entries = (st : State) × (replayed m told first_state entries ≡ Some st)

-- that of all turns replays, and leaves what they left
abbrev pub Replays : Module → Lists → Control → Type 0
Replays m told last = replayed m told first_state last.entries ≡ Some (state_of last.counts (egress_of last.entries) last.work)

-- no call that the run may use was started before
abbrev pub IsFresh : List LinkEvent → Type 0
IsFresh events = (call : Call) (url request : List ℕ) → Contains events (Started call url request) → call.leg ≡ 0

-- each answer is one that its endpoint gave to that request under that call, and no two entries have one call
pub record IsBackedRun (m : Module) (told : Lists) (exchanges : List Exchange) (entries : List Entry) : Type 0 where
  pub backed : AreBacked exchanges m told first_state entries
  pub distinct : IsDistinct same_call (calls_of entries)

-- ---- ends

-- both counts stand
abbrev pub AreCalm : Seen → Seen → Type 0
AreCalm before now = (now.ingress_faults ≡ before.ingress_faults) × (now.link_faults ≡ before.link_faults)

-- why a run ends so
abbrev pub IsCauseOf : Seen → Seen → End → Type 0
IsCauseOf before now (Broke Ingress) = IsCause Ingress before now
IsCauseOf before now (Broke Link) = IsCause Link before now
IsCauseOf before now end = AreCalm before now

-- the longest request that an endpoint takes
abbrev pub most_bytes : Endpoint → ℕ
most_bytes endpoint = endpoint.max_bytes

-- a failed endpoint has as many reasons as attempts
abbrev pub AreTried : Module → End → Type 0
AreTried m (EndpointFailed address reasons) = length reasons ≡ attempts_at m address
AreTried m end = Unit {0}

-- at Done all that stood in the lists at entry was taken, no letter is left, and no delayed letter waits
pub record IsDelivered (m : Module) (first : Lists) (last : Control) : Type 0 where
  pub idle : is_idle last.work ≡ true
  pub letters : (address : Address) → last.work.post.letters address ≡ []
  pub taken : (split : ℕ) → split < splits_in m.ingresses → length (split_of first split) ≤ last.counts split

abbrev pub IfDone : Module → Option Lists → Control → End → Type 0
IfDone m first last (Done taken) = IfSome first (λ lists. IsDelivered m lists last)
IfDone m first last end = Unit {0}

-- what is too large is larger than its limit
abbrev pub IsTooLarge : Module → Control → End → Type 0
IsTooLarge m last (RecordTooLarge split offset size) = longest < size
IsTooLarge m last (BatchTooLarge address size limit) =
    let first = request_size (head_size address (last.work.cells address) last.moment) (take 1 (last.work.post.letters address)) in
    (limit < size) × (size ≡ capped first) × (option_map most_bytes (endpoint_of m address.kind) ≡ Some limit)
IsTooLarge m last end = Unit {0}

-- No endpoint has so many attempts that a turn could use up the numbers of its calls, nor takes requests of so many bytes
-- that a larger size could not be told.
abbrev pub IsModest : Endpoint → Type 0
IsModest endpoint = (endpoint.attempts ≤ 100) × (endpoint.max_bytes ≤ 8388608)

abbrev pub AreModest : List Endpoint → Type 0
AreModest endpoints = AllByRecursion IsModest endpoints

-- ---- completeness

-- what a poll told ends no run: the call goes on, or a valid answer came
abbrev pub IsServedBy : ℕ → ℕ → Came → Option Answered → Type 0
IsServedBy polls patience came None = polls + 1 < patience
IsServedBy polls patience (Answers answer judged) (Some what) = Unit {0}
IsServedBy polls patience (Failed why) (Some what) = ⊥

-- no record is too large, and no attempt fails
abbrev pub IsServed : Module → Phase → Control → Event → Type 0
IsServed m (Reading split count) c (Read s offset (Some found)) = size_of found ≤ longest
IsServed m (Waiting batch call polls) c (Poll outcome) =
    let what = own_part call outcome in IsServedBy polls (patience_at m batch.address) (came m c batch.address what) what
IsServed m phase c event = Unit {0}

-- the request with the first letter of a batch is within its limit
abbrev pub IsRoomy : Phase → Type 0
IsRoomy (Stopped (BatchTooLarge address size limit)) = size ≤ limit
IsRoomy phase = Unit {0}

-- so it is along some events
abbrev pub AreServed : Plan → Control → List Event → Type 0
AreServed plan c [] = Unit {0}
AreServed plan c (event ∷ events) =
    let next = goes_on plan c.phase c event in IsServed plan.routes c.phase c event × IsRoomy next.phase × AreServed plan next events

abbrev pub IsComplete : End → Type 0
IsComplete (Done taken) = Unit {0}
IsComplete (TurnsSpent taken) = Unit {0}
IsComplete (Broke Memory) = Unit {0}
IsComplete end = ⊥

pub record NoneRose (before now : Seen) : Type 0 where
  pub ingress : Rose before.ingress_faults now.ingress_faults → ⊥
  pub link : Rose before.link_faults now.link_faults → ⊥

-- ---- requests

-- a request that is started has at most its endpoint's bytes
abbrev pub IsBounded : Endpoint → Event → Type 0
IsBounded endpoint (Start call url request) = length request ≤ endpoint.max_bytes
IsBounded endpoint event = Unit {0}

abbrev pub IsBoundedIn : Module → Phase → Event → Type 0
IsBoundedIn m (Opening batch) event = IfSome (endpoint_of m batch.address.kind) (λ endpoint. IsBounded endpoint event)
IsBoundedIn m phase event = Unit {0}

abbrev pub AreBounded : Plan → Control → List Event → Type 0
AreBounded plan c [] = Unit {0}
AreBounded plan c (event ∷ events) = IsBoundedIn plan.routes c.phase event × AreBounded plan (goes_on plan c.phase c event) events

-- ---- a run

-- All that a run says is said of one list of events.
pub record IsRun (plan : Plan) (before now : Seen) (entries : List Entry) (end : End) : Type 0 where
  pub events : List Event
  pub last : Control
  -- each was what the turns ask for, and what the outside did
  pub trace : Trace plan (first_control plan no_origin) before events last now
  pub is_end : IsEnd last entries end
  pub journal : now.journal ≡ more before.journal (link_events events)
  pub reads : IfSome now.lists (λ told. AreRead told events)
  pub replays : IfSome now.lists (λ told. Replays plan.routes told last × HasState plan.routes told entries)
  pub backed : IfSome now.lists (λ told. IfSome before.journal (λ done. IsFresh done → IsBackedRun plan.routes told now.exchanges entries))
  pub bounded : AreBounded plan (first_control plan no_origin) events
  pub cause : IsCauseOf before now end
  pub tried : AreTried plan.routes end
  pub large : IsTooLarge plan.routes last end
  pub done : IfDone plan.routes before.lists last end
  pub complete : NoneRose before now → AreServed plan (first_control plan no_origin) events → IsComplete end
