-- The cells of an address: what a batch and a registration do to them, and when a value is gone.
use Rattle.std.specs.Prelude.{ℕ, ◌+◌, nat_le, Bool, false, if◌then◌else◌, List, [], ◌∷◌, ◌++◌, Option, Some, None, is_some}
use Rattle.typed_values.specs.declared.cell.CellSpec.{CellSpec}
use Rattle.typed_values.specs.declared.cell.Expiry.{Expiry}
use Rattle.typed_values.specs.declared.cell.Expiry.TheVariants.{Never, AfterWrite, AfterInvoke}
use Rattle.typed_values.specs.declared.cells.Cell.{Cell}
use Rattle.typed_values.specs.declared.cells.Shipped.{Shipped}
use Rattle.typed_values.specs.declared.value.TypedValue.{TypedValue}
use Rattle.typed_values.specs.Sameness.{same_bytes}

-- ---- one cell

-- a value of a cell that expires is gone so long after its stamp
abbrev pub lapsed : Expiry → ℕ → ℕ → ℕ → Bool
lapsed Never millis stamp moment = false
lapsed AfterWrite millis stamp moment = nat_le (stamp + millis) moment
lapsed AfterInvoke millis stamp moment = nat_le (stamp + millis) moment

abbrev pub is_expired : ℕ → Cell → Bool
is_expired moment cell = lapsed cell.spec.mode cell.spec.millis cell.stamp moment

-- the value at a moment
abbrev pub value_at : ℕ → Cell → Option TypedValue
value_at moment cell = if is_expired moment cell then None else cell.value

-- what a request at a moment carries
abbrev pub shipped : ℕ → Cell → Shipped
shipped moment cell = record { name = cell.spec.name; value = value_at moment cell }

-- a new cell, and one whose value is gone
abbrev pub empty : CellSpec → Cell
empty spec = record { spec = spec; value = None; stamp = 0 }

abbrev pub emptied : Cell → Cell
emptied cell = empty cell.spec

abbrev pub written : TypedValue → ℕ → Cell → Cell
written value moment cell = record { spec = cell.spec; value = Some value; stamp = moment }

-- the stamp behind an invocation
abbrev pub used : Expiry → Option TypedValue → ℕ → ℕ → ℕ
used Never value stamp moment = stamp
used AfterWrite value stamp moment = stamp
used AfterInvoke None stamp moment = stamp
used AfterInvoke (Some value) stamp moment = moment

-- an invocation drops what has expired, and is a use of the other cells
abbrev pub invoked : ℕ → Cell → Cell
invoked moment cell =
    if is_expired moment cell then emptied cell
    else record { spec = cell.spec; value = cell.value; stamp = used cell.spec.mode cell.value cell.stamp moment }

-- ---- the cells of an address, in order of registration

abbrev pub is_named : List ℕ → Cell → Bool
is_named name cell = same_bytes name cell.spec.name

abbrev pub found : List ℕ → List Cell → Option Cell
found name [] = None
found name (cell ∷ cells) = if is_named name cell then Some cell else found name cells

-- a new name goes last, without a value; one that is there stays as it is
abbrev pub registered : CellSpec → List Cell → List Cell
registered spec cells = if is_some (found spec.name cells) then cells else cells ++ empty spec ∷ []

-- the cell of a name is changed
abbrev pub changed : (Cell → Cell) → List ℕ → List Cell → List Cell
changed change name [] = []
changed change name (cell ∷ cells) = if is_named name cell then change cell ∷ cells else cell ∷ changed change name cells
