-- How delays are kept: in the order in which they come due, each with the number of its put.
use Rattle.std.specs.Prelude.{◌≡◌, ◌≢◌, ℕ, ◌-◌, ◌^◌, ◌<◌, ◌≤◌, nat_lt, min, if◌then◌else◌, List, [], ◌∷◌, map, take, drop, insert}
use Rattle.std.specs.List.{AllByRecursion}
use Rattle.typed_values.specs.declared.record.Delay.{Delay}
use Rattle.delayed_messages.specs.declared.queue.Numbered.{Numbered}

-- one comes before another: its due is less, or it was put earlier among equals
abbrev pub ComesBefore : Numbered → Numbered → Type 0
ComesBefore a b = (a.delay.due ≤ b.delay.due) × (a.number ≢ b.number) × (b.number < a.number → a.delay.due < b.delay.due)

abbrev pub IsQueue : List Numbered → Type 0
IsQueue [] = Unit {0}
IsQueue (kept ∷ others) = AllByRecursion (ComesBefore kept) others × IsQueue others

abbrev pub AreBelow : ℕ → List Numbered → Type 0
AreBelow next queue = AllByRecursion (λ kept. kept.number < next) queue

-- all before a place are due no later, and all behind it later
abbrev pub IsPlace : ℕ → List Numbered → ℕ → Type 0
IsPlace due queue place = AllByRecursion (λ kept. kept.delay.due ≤ due) (take place queue) × AllByRecursion (λ kept. due < kept.delay.due) (drop place queue)

-- one more is put in its place
abbrev pub IsPut : Numbered → List Numbered → List Numbered → Type 0
IsPut kept old new = (place : ℕ) × IsPlace kept.delay.due old place × (new ≡ insert old place kept)

-- in order of the numbers
abbrev pub filed : Numbered → List Numbered → List Numbered
filed kept [] = kept ∷ []
filed kept (other ∷ others) = if nat_lt kept.number other.number then kept ∷ other ∷ others else other ∷ filed kept others

abbrev pub by_number : List Numbered → List Numbered
by_number [] = []
by_number (kept ∷ others) = filed kept (by_number others)

abbrev pub delay_of : Numbered → Delay
delay_of kept = kept.delay

abbrev pub in_order_of_put : List Numbered → List Delay
in_order_of_put queue = map delay_of (by_number queue)

-- how many more can be put: there is a place and a number for each
abbrev pub room : ℕ → ℕ → ℕ → ℕ
room capacity count next = min (capacity - count) (2 ^ 64 - 1 - next)
