-- Which of the calls that were started is the next to be answered.
use Rattle.std.specs.Prelude.{ℕ, ◌+◌, List, [], ◌∷◌, Option, Some, None}
use Rattle.sf_outside.specs.declared.call.LinkEvent.{LinkEvent}
use Rattle.sf_outside.specs.declared.call.LinkEvent.TheVariants.{Started, Polled}
use Rattle.sf_outside.specs.Script.{start_number}

-- how many polls told what became of a call
abbrev pub outcomes_in : List LinkEvent → ℕ
outcomes_in [] = 0
outcomes_in (Started call url request ∷ events) = outcomes_in events
outcomes_in (Polled None ∷ events) = outcomes_in events
outcomes_in (Polled (Some outcome) ∷ events) = outcomes_in events + 1

-- calls are answered once, in the order of their starts: the earliest without an outcome is next
unfoldable pub next_start : List LinkEvent → Option LinkEvent
next_start events = start_number events (outcomes_in events)
