-- What a link over a table tells was answered.
use Rattle.std.proofs.Common.{◌≡◌, ℕ, ◌+◌, List, [], ◌∷◌, ◌++◌, Option, Some, None, refl, arith, add-one}
use Rattle.std.specs.Prelude.{Contains, option_to_list}
use Rattle.sf_outside.specs.declared.call.Call.{Call}
use Rattle.sf_outside.specs.declared.call.Answered.{Answered}
use Rattle.sf_outside.specs.declared.call.Answered.TheVariants.{Answer, Lost}
use Rattle.sf_outside.specs.declared.call.LinkEvent.{LinkEvent}
use Rattle.sf_outside.specs.declared.call.LinkEvent.TheVariants.{Started, Polled}
use Rattle.sf_outside.specs.declared.call.Exchange.{Exchange}
use Rattle.sf_outside.specs.declared.call.Outcome.{Outcome}
use Rattle.sf_outside.specs.Answers.{IsAnswered}
use Rattle.sf_outside.proofs.Starts.{start_among}
use Rattle.function_server.specs.Tables.{Service}
use Rattle.function_server.specs.Answering.{bytes_for}
use Rattle.function_server.specs.Asking.{outcomes_in, next_start}
use Rattle.function_server.specs.Linking.{what_of, outcome_of, exchange_with, exchange_of}

contains_last : (xs : List Exchange) (x : Exchange) → Contains (xs ++ x ∷ []) x
contains_last [] x = (0, omega arith, refl)
contains_last (y ∷ xs) x = let k = contains_last xs x in (k.0 + 1, omega (arith, k.1), rw add-one k.2)

answered_with : (events : List LinkEvent) (exchanges : List Exchange) (call : Call) (url request : List ℕ) (what : Answered) → Contains events (Started call url request)
    → IsAnswered (Some events) (exchanges ++ option_to_list (exchange_with call url request what)) (Some (record { call = call; what = what }))
answered_with events exchanges call url request (Answer answer) among = record {
  exchange = record { call = call; url = url; request = request; answer = answer };
  made = contains_last exchanges _;
  call = refl;
  answer_is = refl;
  started = among;
}
answered_with events exchanges call url request (Lost note) among = tt

answered_from : (services : List Service) (events : List LinkEvent) (exchanges : List Exchange) (start : Option LinkEvent) → ((s : LinkEvent) → start ≡ Some s → Contains events s)
    → IsAnswered (Some events) (exchanges ++ option_to_list (exchange_of services start)) (outcome_of services start)
answered_from services events exchanges None among = tt
answered_from services events exchanges (Some (Started call url request)) among = answered_with events exchanges call url request (what_of (bytes_for services request)) (among (Started call url request) refl)
answered_from services events exchanges (Some (Polled outcome)) among = tt

next_among : (events : List LinkEvent) (start : LinkEvent) → next_start events ≡ Some start → Contains events start
unfolding next_start
next_among events start e = start_among events (outcomes_in events) start e

pub answered_by_table : (services : List Service) (events : List LinkEvent) (start : Option LinkEvent) (before now : List Exchange) (outcome : Option Outcome) (exchange : Option Exchange)
    → start ≡ next_start events → outcome ≡ outcome_of services start → exchange ≡ exchange_of services start → now ≡ before ++ option_to_list exchange
    → IsAnswered (Some events) now outcome
answered_by_table services events start before now outcome exchange next tells behind exchanged =
    rw (tells, exchanged, behind, next) (answered_from services events before (next_start events) (next_among events))
