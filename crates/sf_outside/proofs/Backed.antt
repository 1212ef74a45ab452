-- What a turn tells was answered.
use Rattle.std.proofs.Common.{◌≡◌, ℕ, ◌+◌, List, [], ◌∷◌, ◌++◌, Option, Some, None, refl, arith, add-one}
use Rattle.std.specs.Prelude.{Contains, option_to_list}
use Rattle.sf_outside.specs.declared.call.Answered.TheVariants.{Answer, Lost}
use Rattle.sf_outside.specs.declared.call.LinkEvent.{LinkEvent}
use Rattle.sf_outside.specs.declared.call.LinkEvent.TheVariants.{Started, Polled}
use Rattle.sf_outside.specs.declared.call.Exchange.{Exchange}
use Rattle.sf_outside.specs.declared.call.Outcome.{Outcome}
use Rattle.sf_outside.specs.declared.turn.Turn.{Turn}
use Rattle.sf_outside.specs.declared.turn.Turn.TheVariants.{Reply, Lose, Nothing}
use Rattle.sf_outside.specs.Answers.{IsAnswered}
use Rattle.sf_outside.specs.Script.{start_number, about, exchange_with, told, exchange_of}
use Rattle.sf_outside.proofs.Starts.{start_among}

contains_last : (xs : List Exchange) (x : Exchange) → Contains (xs ++ x ∷ []) x
contains_last [] x = (0, omega arith, refl)
contains_last (y ∷ xs) x = let k = contains_last xs x in (k.0 + 1, omega (arith, k.1), rw add-one k.2)

answered_by : (events : List LinkEvent) (exchanges : List Exchange) (answer : List ℕ) (start : Option LinkEvent)
    → ((s : LinkEvent) → start ≡ Some s → Contains events s)
    → IsAnswered (Some events) (exchanges ++ option_to_list (exchange_with start answer)) (about start (Answer answer))
answered_by events exchanges answer None among = tt
answered_by events exchanges answer (Some (Started call url request)) among = record {
  exchange = record { call = call; url = url; request = request; answer = answer };
  made = contains_last exchanges _;
  call = refl;
  answer_is = refl;
  started = among (Started call url request) refl;
}
answered_by events exchanges answer (Some (Polled outcome)) among = tt

lost_by : (events : List LinkEvent) (exchanges : List Exchange) (note : ℕ) (start : Option LinkEvent) → IsAnswered (Some events) exchanges (about start (Lost note))
lost_by events exchanges note None = tt
lost_by events exchanges note (Some (Started call url request)) = tt
lost_by events exchanges note (Some (Polled outcome)) = tt

pub is_answered : (events : List LinkEvent) (exchanges : List Exchange) (turn : Option Turn) → IsAnswered (Some events) (exchanges ++ option_to_list (exchange_of events turn)) (told events turn)
is_answered events exchanges None = tt
is_answered events exchanges (Some Nothing) = tt
is_answered events exchanges (Some (Reply number answer)) = answered_by events exchanges answer (start_number events number) (λ s e. start_among events number s e)
is_answered events exchanges (Some (Lose number note)) = lost_by events _ note (start_number events number)

pub is_answered_as : (events : List LinkEvent) (before now : List Exchange) (turn : Option Turn) (outcome : Option Outcome)
    → outcome ≡ told events turn → now ≡ before ++ option_to_list (exchange_of events turn) → IsAnswered (Some events) now outcome
is_answered_as events before now turn outcome tells exchanged = rw (tells, exchanged) (is_answered events before turn)
