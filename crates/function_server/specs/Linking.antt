-- What a link tells that has a table of functions at its end.
use Rattle.std.specs.Prelude.{ℕ, List, Option, Some, None, Result, Ok, Err}
use Rattle.sf_outside.specs.declared.call.Call.{Call}
use Rattle.sf_outside.specs.declared.call.Answered.{Answered}
use Rattle.sf_outside.specs.declared.call.Answered.TheVariants.{Answer, Lost}
use Rattle.sf_outside.specs.declared.call.Outcome.{Outcome}
use Rattle.sf_outside.specs.declared.call.Exchange.{Exchange}
use Rattle.sf_outside.specs.declared.call.LinkEvent.{LinkEvent}
use Rattle.sf_outside.specs.declared.call.LinkEvent.TheVariants.{Started, Polled}
use Rattle.function_server.specs.Tables.{Service}
use Rattle.function_server.specs.Answering.{Refusal, misspelled, not_served, bytes_for}

-- an answer, or that the call is lost, with why
abbrev pub what_of : Result (List ℕ) Refusal → Answered
what_of (Ok answer) = Answer answer
what_of (Err (misspelled fault)) = Lost 31
what_of (Err not_served) = Lost 32

-- what became of the call that was started so
abbrev pub outcome_of : List Service → Option LinkEvent → Option Outcome
outcome_of services None = None
outcome_of services (Some (Started call url request)) = Some (record { call = call; what = what_of (bytes_for services request) })
outcome_of services (Some (Polled outcome)) = None

abbrev pub exchange_with : Call → List ℕ → List ℕ → Answered → Option Exchange
exchange_with call url request (Answer answer) = Some (record { call = call; url = url; request = request; answer = answer })
exchange_with call url request (Lost note) = None

-- the exchange behind it
abbrev pub exchange_of : List Service → Option LinkEvent → Option Exchange
exchange_of services None = None
exchange_of services (Some (Started call url request)) = exchange_with call url request (what_of (bytes_for services request))
exchange_of services (Some (Polled outcome)) = None
