-- What a link may tell.
use Rattle.std.specs.Prelude.{◌≡◌, ℕ, ◌≤◌, List, [], ◌++◌, Option, Some, None, Result, Ok, Err, Contains}
use Rattle.std.proofs.Common.{sym, append_assoc}
use Rattle.std.proofs.lemmas.List.{append-nil}
use Rattle.sf_outside.specs.declared.fault.Fault.{Fault}
use Rattle.sf_outside.specs.declared.call.Answered.{Answered}
use Rattle.sf_outside.specs.declared.call.Answered.TheVariants.{Answer, Lost}
use Rattle.sf_outside.specs.declared.call.Outcome.{Outcome}
use Rattle.sf_outside.specs.declared.call.LinkEvent.{LinkEvent}
use Rattle.sf_outside.specs.declared.call.LinkEvent.TheVariants.{Started}
use Rattle.sf_outside.specs.declared.call.Exchange.{Exchange}
use Rattle.sf_outside.specs.Told.{Rose}

-- exchanges are only added
abbrev pub Extends : List Exchange → List Exchange → Type 0
Extends old new = (rest : List Exchange) × (new ≡ old ++ rest)

pub Extends-none : (old : List Exchange) → Extends old old
Extends-none old = ([], sym (append-nil old))

pub Extends-then : (old middle new : List Exchange) → Extends old middle → Extends middle new → Extends old new
Extends-then old middle new h k = (h.0 ++ k.0, rw (k.1, h.1) (append_assoc old h.0 k.0))

-- an exchange with this call and this answer, whose start stands in the journal
pub record IsExchanged (events : List LinkEvent) (exchanges : List Exchange) (outcome : Outcome) (answer : List ℕ) : Type 0 where
  pub exchange : Exchange
  pub made : Contains exchanges exchange
  pub call : exchange.call ≡ outcome.call
  pub answer_is : exchange.answer ≡ answer
  pub started : Contains events (Started exchange.call exchange.url exchange.request)

-- an answer is that of an exchange which was started before
abbrev pub IsAnswerOf : List LinkEvent → List Exchange → Outcome → Answered → Type 0
IsAnswerOf events exchanges outcome (Answer answer) = IsExchanged events exchanges outcome answer
IsAnswerOf events exchanges outcome (Lost note) = Unit {0}

abbrev pub IsAnswered : Option (List LinkEvent) → List Exchange → Option Outcome → Type 0
IsAnswered None exchanges outcome = Unit {0}
IsAnswered (Some events) exchanges None = Unit {0}
IsAnswered (Some events) exchanges (Some outcome) = IsAnswerOf events exchanges outcome outcome.what

-- Lost comes only where the count of losses rose; with any other answer it stands
abbrev pub LostRoseBy : ℕ → ℕ → Answered → Type 0
LostRoseBy before now (Answer answer) = now ≡ before
LostRoseBy before now (Lost note) = (before ≤ now) × Rose before now

abbrev pub LostRose : ℕ → ℕ → Result (Option Outcome) Fault → Type 0
LostRose before now (Err fault) = now ≡ before
LostRose before now (Ok None) = now ≡ before
LostRose before now (Ok (Some outcome)) = LostRoseBy before now outcome.what
