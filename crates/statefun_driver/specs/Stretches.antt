-- What turns come to that begin behind others: one list of events, of which all is said.
use Rattle.std.specs.Prelude.{◌≡◌, ◌≤◌, ◌<◌, ℕ, true, List, [], ◌∷◌, Some, IfSome, Contains}
use Rattle.std.specs.List.{AllByRecursion, IsDistinct}
use Rattle.sf_outside.specs.Told.{more}
use Rattle.sf_outside.specs.Splits.{Lists}
use Rattle.sf_outside.specs.declared.call.Call.{Call}
use Rattle.sf_outside.specs.declared.call.LinkEvent.{LinkEvent}
use Rattle.sf_outside.specs.declared.call.LinkEvent.TheVariants.{Started}
use Rattle.address_routing.specs.declared.module.Module.{Module}
use Rattle.run_record.specs.declared.entry.Entry.{Entry}
use Rattle.run_record.specs.declared.entry.Step.{Step}
use Rattle.run_record.specs.declared.entry.Step.TheVariants.{Take, Batch, Register, Due}
use Rattle.run_record.specs.Machine.{State}
use Rattle.run_record.specs.Record.{key_before, replayed}
use Rattle.run_record.specs.Egress.{egress_of}
use Rattle.run_record.specs.Backed.{AreBacked, calls_of, same_call}
use Rattle.partition_core.specs.Work.{state_of}
use Rattle.statefun_driver.specs.declared.end.End.{End}
use Rattle.statefun_driver.specs.Seen.{Event, Seen}
use Rattle.statefun_driver.specs.Turns.{Plan, Control, Origin, Asking, first_control, is_done}
use Rattle.statefun_driver.specs.Traces.{IsEnd}
use Rattle.statefun_driver.specs.Origins.{IsHeld, IsStill}
use Rattle.statefun_driver.specs.Runs.{link_events, AreRead, IsCauseOf, AreTried, IsTooLarge, IsDelivered, IfDone, NoneRose, AreServed, IsComplete, AreBounded}

-- ---- the record

-- what turns begin behind, as a state of the sequential machine, beside what was given to egresses before
abbrev pub base_of : Origin → State
base_of start = state_of start.counts [] start.work

-- the record replays from there, and leaves what the turns left
abbrev pub ReplaysBehind : Module → Lists → Origin → Control → Type 0
ReplaysBehind m told start last = replayed m told (base_of start) last.entries ≡ Some (state_of last.counts (egress_of last.entries) last.work)

-- the keys rise, each above all before it
abbrev pub AreRising : List Entry → Type 0
AreRising [] = Unit {0}
AreRising (entry ∷ entries) = AllByRecursion (λ (other : Entry). key_before entry other ≡ true) entries × AreRising entries

-- the moment of a step is none behind this one
abbrev pub IsInTime : ℕ → Step → Type 0
IsInTime moment (Take split) = Unit {0}
IsInTime moment (Batch reply) = reply.moment ≤ moment
IsInTime moment (Register reply) = reply.moment ≤ moment
IsInTime moment (Due address at) = at ≤ moment

-- a turn behind the first and up to the last
abbrev pub IsBetween : ℕ → ℕ → ℕ → Type 0
IsBetween first last leg = (first < leg) × (leg ≤ last)

-- a step of these turns
pub record IsEntryOf (start : Origin) (last : Control) (entry : Entry) : Type 0 where
  pub leg : IsBetween start.turn last.turn entry.leg
  pub moment : IsInTime last.moment entry.step

abbrev pub AreCallsOf : Origin → Control → List Call → Type 0
AreCallsOf start last calls = AllByRecursion (λ (call : Call). IsBetween start.turn last.turn call.leg) calls

-- ---- calls

-- no call was started in a later turn
abbrev pub AreUpTo : ℕ → List LinkEvent → Type 0
AreUpTo turn events = (call : Call) (url request : List ℕ) → Contains events (Started call url request) → call.leg ≤ turn

-- each answer is one that its endpoint gave to that request under that call
pub record IsBackedBehind (m : Module) (told : Lists) (start : Origin) (now : Seen) (last : Control) : Type 0 where
  pub backed : AreBacked now.exchanges m told (base_of start) last.entries
  pub journal : IfSome now.journal (AreUpTo last.turn)

-- ---- ends

-- an end has its cause
pub record IsToldTruly (plan : Plan) (start : Origin) (before now : Seen) (events : List Event) (last : Control) (end : End) : Type 0 where
  pub cause : IsCauseOf before now end
  pub tried : AreTried plan.routes end
  pub large : IsTooLarge plan.routes last end
  pub done : IfDone plan.routes before.lists last end
  pub complete : NoneRose before now → AreServed plan (first_control plan start) events → IsComplete end

-- ---- a stretch

pub record IsStretch (plan : Plan) (start : Origin) (before now : Seen) (events : List Event) (last : Control) : Type 0 where
  pub journal : now.journal ≡ more before.journal (link_events events)
  pub reads : IfSome now.lists (λ told. AreRead told events)
  -- the record
  pub replays : IfSome now.lists (λ told. ReplaysBehind plan.routes told start last)
  pub backed : IfSome now.lists (λ told. IfSome before.journal (λ done. AreUpTo start.turn done → IsBackedBehind plan.routes told start now last))
  pub entries : AllByRecursion (IsEntryOf start last) last.entries
  pub calls : AreCallsOf start last (calls_of last.entries)
  pub distinct : IsDistinct same_call (calls_of last.entries)
  pub rising : AreRising last.entries
  -- what is left
  pub turn : start.turn ≤ last.turn
  pub moment : start.moment ≤ last.moment
  pub held : IsHeld last.work last.moment
  pub still : last.phase ≡ Asking → IsStill last.work last.moment
  -- where nothing is left behind a turn, all was taken that stood in the lists when the first began
  pub done : last.phase ≡ Asking → start.turn < last.turn → is_done last ≡ true → IfSome before.lists (λ lists. IsDelivered plan.routes lists last)
  pub bounded : AreBounded plan (first_control plan start) events
  pub ends : (entries : List Entry) (end : End) → IsEnd last entries end → IsToldTruly plan start before now events last end
