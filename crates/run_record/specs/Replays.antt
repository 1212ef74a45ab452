-- What a replay answers, and over which lists.
use Rattle.std.specs.Prelude.{◌≡◌, ℕ, ◌≤◌, Bool, List, take, slice_get, is_some, unwrap_or, Option, Some, None, Result, Ok, Err}
use Rattle.typed_values.specs.declared.letter.Sender.{Sender}
use Rattle.typed_values.specs.declared.letter.Sender.TheVariants.{Split, Function}
use Rattle.sf_outside.specs.declared.ingress.IngressRecord.{IngressRecord}
use Rattle.sf_outside.specs.declared.fault.Fault.{Fault}
use Rattle.sf_outside.specs.declared.fault.Fault.TheVariants.{Failed, OutOfMemory as Refused}
use Rattle.sf_outside.specs.Splits.{Lists, Reads}
use Rattle.sf_outside.specs.Told.{Rose}
use Rattle.address_routing.specs.declared.module.Module.{Module}
use Rattle.run_record.specs.declared.entry.Entry.{Entry}
use Rattle.run_record.specs.declared.entry.Step.{Step}
use Rattle.run_record.specs.declared.replaying.Replayed.{Replayed}
use Rattle.run_record.specs.declared.replaying.Replayed.TheVariants.{State as Reached, NotAllowed}
use Rattle.run_record.specs.declared.replaying.ReplayFault.{ReplayFault}
use Rattle.run_record.specs.declared.replaying.ReplayFault.TheVariants.{IngressFault, OutOfMemory}
use Rattle.run_record.specs.Machine.{State, first_state, actor_of, step_with}
use Rattle.run_record.specs.Record.{step_after, replayed}
use Rattle.run_record.specs.StateOf.{state_of}

-- lists that may be those of an ingress: its own, where it tells them
abbrev pub AreListsOf : Option Lists → Lists → Type 0
AreListsOf None lists = Unit {0}
AreListsOf (Some told) lists = lists ≡ told

-- the entries before this place replay, and the one there is not allowed then
pub record IsRefusedAt (m : Module) (lists : Lists) (entries : List Entry) (place : ℕ) : Type 0 where
  pub before : State
  pub replays : replayed m lists first_state (take place entries) ≡ Some before
  pub entry : Entry
  pub stands : slice_get entries place ≡ Some entry
  pub refused : step_after m lists before entry.step ≡ None

-- what a replay over some lists answers
abbrev pub IsReplayed : Module → Lists → List Entry → Replayed → Type 0
IsReplayed m lists entries (Reached machine) = replayed m lists first_state entries ≡ Some (state_of machine)
IsReplayed m lists entries (NotAllowed place) = IsRefusedAt m lists entries place

-- what a replay answers is so over lists that may be the ingress'
pub record Replays (told : Option Lists) (m : Module) (entries : List Entry) (replay : Replayed) : Type 0 where
  pub lists : Lists
  pub are : AreListsOf told lists
  pub is : IsReplayed m lists entries replay

-- the record that an actor takes next is what the lists have there
abbrev pub ReadsNext : Option Lists → State → Sender → Option IngressRecord → Type 0
ReadsNext told st (Split split) found = Reads told split (st.own (Split split)).taken found
ReadsNext told st (Function address) found = Unit {0}

-- a step is made over what was read: it is allowed or not, and leaves this state
pub record StepsOver (told : Option Lists) (m : Module) (st : State) (step : Step) (allowed : Bool) (next : State) : Type 0 where
  pub found : Option IngressRecord
  pub reads : ReadsNext told st (actor_of step) found
  pub is_allowed : allowed ≡ is_some (step_with m found st step)
  pub leaves : next ≡ unwrap_or (step_with m found st step) st

-- what a fault of the ingress makes of a replay
abbrev pub fault_of : Fault → ReplayFault
fault_of Failed = IngressFault
fault_of Refused = OutOfMemory

-- IngressFault comes only where the count rose; with any other answer it stands
abbrev pub HasIngressCause : {T : Type 0} → ℕ → ℕ → Result T ReplayFault → Type 0
HasIngressCause before now (Err IngressFault) = (before ≤ now) × Rose before now
HasIngressCause before now (Err OutOfMemory) = now ≡ before
HasIngressCause before now (Ok x) = now ≡ before
