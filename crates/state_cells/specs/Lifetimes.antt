-- How long a value lives: laws over any calls on the cells of an address.
use Rattle.std.specs.Prelude.{◌≡◌, ℕ, ◌+◌, nat_le, nat_lt, Bool, true, not, ◌&&◌, if◌then◌else◌, List, [], ◌∷◌, ◌++◌, map, Option, Some, None, option_and_then}
use Rattle.typed_values.specs.declared.cell.CellSpec.{CellSpec}
use Rattle.typed_values.specs.declared.cell.Expiry.TheVariants.{Never, AfterWrite, AfterInvoke}
use Rattle.typed_values.specs.declared.cells.Cell.{Cell}
use Rattle.typed_values.specs.declared.value.TypedValue.{TypedValue}
use Rattle.typed_values.specs.Sameness.{same_bytes}
use Rattle.typed_values.specs.Cells.{found, registered, changed, written, emptied, invoked, value_at}

-- ---- calls that are accepted, and what they do

pub data Call : Type 0 where
  Registers : CellSpec → Call
  Modifies : List ℕ → TypedValue → ℕ → Call
  Deletes : List ℕ → Call
  Invokes : ℕ → Call

abbrev pub after : Call → List Cell → List Cell
after (Registers spec) cells = registered spec cells
after (Modifies name value moment) cells = changed (written value moment) name cells
after (Deletes name) cells = changed emptied name cells
after (Invokes moment) cells = map (invoked moment) cells

abbrev pub after_all : List Call → List Cell → List Cell
after_all [] cells = cells
after_all (call ∷ calls) cells = after_all calls (after call cells)

-- ---- the value of one name

-- a call that neither writes nor deletes it
abbrev pub spares : List ℕ → Call → Bool
spares name (Registers spec) = true
spares name (Modifies other value moment) = not (same_bytes other name)
spares name (Deletes other) = not (same_bytes other name)
spares name (Invokes moment) = true

abbrev pub all_spare : List ℕ → List Call → Bool
all_spare name [] = true
all_spare name (call ∷ calls) = spares name call && all_spare name calls

-- the moments of the invocations
abbrev pub with_moment : Call → List ℕ → List ℕ
with_moment (Registers spec) moments = moments
with_moment (Modifies other value moment) moments = moments
with_moment (Deletes other) moments = moments
with_moment (Invokes moment) moments = moment ∷ moments

abbrev pub invocations : List Call → List ℕ
invocations [] = []
invocations (call ∷ calls) = with_moment call (invocations calls)

abbrev pub value_of : List ℕ → ℕ → List Cell → Option TypedValue
value_of name moment cells = option_and_then (value_at moment) (found name cells)

-- the value at a moment, where one was written at the start and calls came then
abbrev pub value_after : List ℕ → List Cell → TypedValue → ℕ → List Call → ℕ → Option TypedValue
value_after name cells value start calls moment = value_of name moment (after_all calls (changed (written value start) name cells))

-- none of the moments is later than the last
abbrev pub up_to : ℕ → List ℕ → Bool
up_to last [] = true
up_to last (moment ∷ moments) = nat_le moment last && up_to last moments

-- less than a time passes from each moment to the next
abbrev pub never_pauses : ℕ → ℕ → List ℕ → Bool
never_pauses millis start [] = true
never_pauses millis start (moment ∷ moments) = nat_lt moment (start + millis) && never_pauses millis moment moments

-- ---- the laws

abbrev pub StaysForGood : Type 0
StaysForGood = (cells : List Cell) (cell : Cell) (name : List ℕ) (value : TypedValue) (start moment : ℕ) (calls : List Call)
    → found name cells ≡ Some cell → all_spare name calls ≡ true → cell.spec.mode ≡ Never
    → value_after name cells value start calls moment ≡ Some value

abbrev pub LivesFromItsWrite : Type 0
LivesFromItsWrite = (cells : List Cell) (cell : Cell) (name : List ℕ) (value : TypedValue) (start moment : ℕ) (calls : List Call)
    → found name cells ≡ Some cell → all_spare name calls ≡ true → cell.spec.mode ≡ AfterWrite → up_to moment (invocations calls) ≡ true
    → value_after name cells value start calls moment ≡ (if nat_lt moment (start + cell.spec.millis) then Some value else None)

abbrev pub LivesFromItsUse : Type 0
LivesFromItsUse = (cells : List Cell) (cell : Cell) (name : List ℕ) (value : TypedValue) (start moment : ℕ) (calls : List Call)
    → found name cells ≡ Some cell → all_spare name calls ≡ true → cell.spec.mode ≡ AfterInvoke
    → value_after name cells value start calls moment ≡ (if never_pauses cell.spec.millis start (invocations calls ++ moment ∷ []) then Some value else None)
