-- Laws over any calls on the delays that wait.
use Rattle.std.specs.Prelude.{◌≡◌, ℕ, ◌+◌, ◌<◌, ◌≤◌, Bool, true, false, List, [], ◌∷◌, ◌++◌, map, count_by, Option, Some, None}
use Rattle.std.specs.List.{AllByRecursion}
use Rattle.typed_values.specs.declared.address.Address.{Address}
use Rattle.typed_values.specs.declared.record.Delay.{Delay}
use Rattle.typed_values.specs.Delays.{is_meant, cancelled, due_at}

-- ---- one call

-- behind a cancellation none of its sender's with its token is there, and all others are there as often as before
abbrev pub CancelsItsOwn : Type 0
CancelsItsOwn = (sender : Address) (token : List ℕ) (delays : List Delay)
    → AllByRecursion (λ delay. (delay.sender ≡ sender) × (delay.token ≡ token) → ⊥) (cancelled sender token delays)
    × ((looked : Delay → Bool) → ((delay : Delay) → delay.sender ≡ sender → delay.token ≡ token → looked delay ≡ false)
    → count_by looked (cancelled sender token delays) ≡ count_by looked delays)

-- the one that is due has the least due, those put before it a greater one, and its moment has come; the others stay in order
abbrev pub LeastIsDue : Type 0
LeastIsDue = (moment : ℕ) (delays others : List Delay) (delay : Delay) → due_at moment delays ≡ Some (delay, others)
    → (front : List Delay) × (behind : List Delay) × (delays ≡ front ++ delay ∷ behind) × (others ≡ front ++ behind)
    × AllByRecursion (λ other. delay.due < other.due) front × AllByRecursion (λ other. delay.due ≤ other.due) behind × (delay.due ≤ moment)

-- where none is due, the moment of none has come
abbrev pub NoneIsDue : Type 0
NoneIsDue = (moment : ℕ) (delays : List Delay) → due_at moment delays ≡ None → AllByRecursion (λ delay. moment < delay.due) delays

-- ---- any calls

pub data Call : Type 0 where
  Puts : Delay → Call
  Cancels : Address → List ℕ → Call
  Asks : ℕ → Call

abbrev pub left_by : List Delay → Option (Delay × List Delay) → List Delay
left_by delays None = delays
left_by delays (Some due) = due.1

abbrev pub after : Call → List Delay → List Delay
after (Puts delay) delays = delays ++ delay ∷ []
after (Cancels sender token) delays = cancelled sender token delays
after (Asks moment) delays = left_by delays (due_at moment delays)

abbrev pub after_all : List Call → List Delay → List Delay
after_all [] delays = delays
after_all (call ∷ calls) delays = after_all calls (after call delays)

-- what was put
abbrev pub with_put : Call → List Delay → List Delay
with_put (Puts delay) puts = delay ∷ puts
with_put (Cancels sender token) puts = puts
with_put (Asks moment) puts = puts

abbrev pub put_by : List Call → List Delay
put_by [] = []
put_by (call ∷ calls) = with_put call (put_by calls)

-- what came due, each with the moment at which it was asked for
abbrev pub came : ℕ → Option (Delay × List Delay) → List (ℕ × Delay) → List (ℕ × Delay)
came moment None more = more
came moment (Some due) more = (moment, due.0) ∷ more

abbrev pub sent : Call → List Delay → List (ℕ × Delay) → List (ℕ × Delay)
sent (Puts delay) delays more = more
sent (Cancels sender token) delays more = more
sent (Asks moment) delays more = came moment (due_at moment delays) more

abbrev pub sent_by : List Call → List Delay → List (ℕ × Delay)
sent_by [] delays = []
sent_by (call ∷ calls) delays = sent call delays (sent_by calls (after call delays))

-- no cancellation is for what is looked for
abbrev pub Misses : (Delay → Bool) → Call → Type 0
Misses looked (Puts delay) = Unit {0}
Misses looked (Cancels sender token) = (delay : Delay) → is_meant sender token delay ≡ true → looked delay ≡ false
Misses looked (Asks moment) = Unit {0}

abbrev pub delay_in : ℕ × Delay → Delay
delay_in due = due.1

-- what comes due was asked for at its due or later
abbrev pub NoneIsEarly : Type 0
NoneIsEarly = (calls : List Call) (delays : List Delay) → AllByRecursion (λ due. (delay_in due).due ≤ due.0) (sent_by calls delays)

-- what no cancellation is for is sent or still waits, as often as it was put
abbrev pub NoneIsLost : Type 0
NoneIsLost = (calls : List Call) (delays : List Delay) (looked : Delay → Bool) → AllByRecursion (Misses looked) calls
    → count_by looked delays + count_by looked (put_by calls) ≡ count_by looked (map delay_in (sent_by calls delays)) + count_by looked (after_all calls delays)
