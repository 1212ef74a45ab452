-- What a link that follows a script tells.
use Rattle.std.specs.Prelude.{ℕ, ◌+◌, ◌-◌, ◌^◌, min, List, [], ◌∷◌, Option, Some, None, slice_get, length, nat_lt, if◌then◌else◌}
use Rattle.sf_outside.specs.declared.call.Answered.{Answered}
use Rattle.sf_outside.specs.declared.call.Answered.TheVariants.{Answer, Lost}
use Rattle.sf_outside.specs.declared.call.Outcome.{Outcome}
use Rattle.sf_outside.specs.declared.call.LinkEvent.{LinkEvent}
use Rattle.sf_outside.specs.declared.call.LinkEvent.TheVariants.{Started, Polled}
use Rattle.sf_outside.specs.declared.call.Exchange.{Exchange}
use Rattle.sf_outside.specs.declared.turn.Turn.{Turn}
use Rattle.sf_outside.specs.declared.turn.Turn.TheVariants.{Reply, Lose, Nothing}

-- the starts among events
abbrev pub starts_of : List LinkEvent → List LinkEvent
starts_of [] = []
starts_of (Started call url request ∷ events) = Started call url request ∷ starts_of events
starts_of (Polled outcome ∷ events) = starts_of events

-- start number n
abbrev pub start_number : List LinkEvent → ℕ → Option LinkEvent
start_number events n = slice_get (starts_of events) n

-- where the starts stand, the first event being at this place
abbrev pub places_from : ℕ → List LinkEvent → List ℕ
places_from at [] = []
places_from at (Started call url request ∷ events) = at ∷ places_from (at + 1) events
places_from at (Polled outcome ∷ events) = places_from (at + 1) events

-- this became of the call that was started there
abbrev pub about : Option LinkEvent → Answered → Option Outcome
about None what = None
about (Some (Started call url request)) what = Some (record { call = call; what = what })
about (Some (Polled outcome)) what = None

-- what a turn tells of the calls that were started
abbrev pub told : List LinkEvent → Option Turn → Option Outcome
told events None = None
told events (Some Nothing) = None
told events (Some (Reply number answer)) = about (start_number events number) (Answer answer)
told events (Some (Lose number note)) = about (start_number events number) (Lost note)

-- the call that was started there, with this answer
abbrev pub exchange_with : Option LinkEvent → List ℕ → Option Exchange
exchange_with None answer = None
exchange_with (Some (Started call url request)) answer = Some (record { call = call; url = url; request = request; answer = answer })
exchange_with (Some (Polled outcome)) answer = None

-- the exchange behind what a turn tells
abbrev pub exchange_of : List LinkEvent → Option Turn → Option Exchange
exchange_of events None = None
exchange_of events (Some Nothing) = None
exchange_of events (Some (Reply number answer)) = exchange_with (start_number events number) answer
exchange_of events (Some (Lose number note)) = None

-- the count of losses goes up by one at a loss, and stays at its last value
abbrev pub losses_by : ℕ → Answered → ℕ
losses_by losses (Answer answer) = losses
losses_by losses (Lost note) = min (losses + 1) (2 ^ 64 - 1)

abbrev pub losses_behind : ℕ → Option Outcome → ℕ
losses_behind losses None = losses
losses_behind losses (Some outcome) = losses_by losses outcome.what

-- how many turns are taken behind a poll
abbrev pub turns_behind : List Turn → ℕ → ℕ
turns_behind turns taken = if nat_lt taken (length turns) then taken + 1 else taken
