-- What the outside of a run tells of itself, and what one event of it changes.
use Rattle.std.specs.Prelude.{◌≡◌, ◌≤◌, ◌<◌, ◌^◌, ℕ, List, [], ◌∷◌, Option, Ok, IfSome, ◌⊎◌}
use Rattle.std.specs.Option.{option_map}
use Rattle.sf_outside.specs.Told.{more, Rose}
use Rattle.sf_outside.specs.Splits.{Lists, Grows, Reads}
use Rattle.sf_outside.specs.Answers.{Extends, IsAnswered, LostRose}
use Rattle.sf_outside.specs.declared.ingress.IngressRecord.{IngressRecord}
use Rattle.sf_outside.specs.declared.call.Call.{Call}
use Rattle.sf_outside.specs.declared.call.Outcome.{Outcome}
use Rattle.sf_outside.specs.declared.call.Exchange.{Exchange}
use Rattle.sf_outside.specs.declared.call.LinkEvent.{LinkEvent}
use Rattle.sf_outside.specs.declared.call.LinkEvent.TheVariants.{Started, Polled}
use Rattle.sf_clock.specs.Moments.{next_of, behind}
use Rattle.statefun_driver.specs.declared.end.Broken.{Broken}
use Rattle.statefun_driver.specs.declared.end.Broken.TheVariants.{Ingress, Link, Memory}
use base.Fml.{GName}

-- one event of the outside; a fault, and want of memory in a call on it, are events too
pub data Event : Type 0 where
  Read : (split : ℕ) (offset : ℕ) (found : Option IngressRecord) → Event
  Now : (moment : ℕ) → Event
  Start : (call : Call) (url : List ℕ) (request : List ℕ) → Event
  Poll : (outcome : Option Outcome) → Event
  Fails : (by : Broken) → Event

-- which objects a run has: no call exchanges them
pub record Objects : Type 0 where
  pub ingress : GName
  pub link : GName
  pub clock : GName

-- what the outside tells, before or after a call
pub record Seen : Type 0 where
  pub objects : Objects
  -- the ingress' lists
  pub lists : Option Lists
  -- the clock's moments to come
  pub moments : Option (List ℕ)
  -- what the link did
  pub journal : Option (List LinkEvent)
  pub exchanges : List Exchange
  pub ingress_faults : ℕ
  pub link_faults : ℕ
  pub losses : ℕ

-- ---- the contracts of the calls

pub record HearsRead (split offset : ℕ) (found : Option IngressRecord) (old new : Seen) : Type 0 where
  pub grows : Grows old.lists new.lists
  pub reads : Reads new.lists split offset found
  pub short : IfSome found (λ _. offset < 2 ^ 63)
  pub others : new ≡ record old { lists = new.lists }

pub record HearsNow (moment : ℕ) (old new : Seen) : Type 0 where
  pub next : IfSome old.moments (λ moments. moment ≡ next_of moments)
  pub others : new ≡ record old { moments = option_map behind old.moments }

pub record HearsStart (call : Call) (url request : List ℕ) (old new : Seen) : Type 0 where
  pub exchanges : Extends old.exchanges new.exchanges
  pub others : new ≡ record old { journal = more old.journal (Started call url request ∷ []); exchanges = new.exchanges }

pub record HearsPoll (outcome : Option Outcome) (old new : Seen) : Type 0 where
  pub exchanges : Extends old.exchanges new.exchanges
  pub answered : IsAnswered old.journal new.exchanges outcome
  pub lost : LostRose old.losses new.losses (Ok outcome)
  pub others : new ≡ record old { journal = more old.journal (Polled outcome ∷ []); exchanges = new.exchanges; losses = new.losses }

-- the count of the object that failed rose, and the other stands
abbrev pub IsCause : Broken → Seen → Seen → Type 0
IsCause Ingress old new = (old.ingress_faults ≤ new.ingress_faults) × Rose old.ingress_faults new.ingress_faults × (new.link_faults ≡ old.link_faults)
IsCause Link old new = (new.ingress_faults ≡ old.ingress_faults) × (old.link_faults ≤ new.link_faults) × Rose old.link_faults new.link_faults
IsCause Memory old new = (new.ingress_faults ≡ old.ingress_faults) × (new.link_faults ≡ old.link_faults)

pub record HearsFail (by : Broken) (old new : Seen) : Type 0 where
  pub grows : Grows old.lists new.lists
  pub exchanges : Extends old.exchanges new.exchanges
  pub cause : IsCause by old new
  pub others : new ≡ record old {
    lists = new.lists;
    exchanges = new.exchanges;
    ingress_faults = new.ingress_faults;
    link_faults = new.link_faults;
  }

-- what an event changes in what the outside tells
abbrev pub Hears : Event → Seen → Seen → Type 0
Hears (Read split offset found) old new = HearsRead split offset found old new
Hears (Now moment) old new = HearsNow moment old new
Hears (Start call url request) old new = HearsStart call url request old new
Hears (Poll outcome) old new = HearsPoll outcome old new
Hears (Fails by) old new = HearsFail by old new

-- a call on one object fails by that object or by want of memory
abbrev pub Breaks : Broken → Broken → Seen → Seen → Type 0
Breaks object by old new = ((by ≡ object) ⊎ (by ≡ Memory)) × HearsFail by old new
