-- What is true of the cells of an address at all times.
use Rattle.std.specs.Prelude.{◌≡◌, ℕ, ◌≤◌, Bool, true, false, List, [], ◌∷◌, ◌++◌, length, map, Option, Some, None}
use Rattle.std.specs.List.{IsDistinct}
use Rattle.std.specs.Map.{lookup, set_value}
use Rattle.typed_values.specs.declared.cell.CellSpec.{CellSpec}
use Rattle.typed_values.specs.declared.cells.Cell.{Cell}
use Rattle.typed_values.specs.declared.value.TypedValue.{TypedValue}
use Rattle.typed_values.specs.Cells.{empty}
use Rattle.typed_values.specs.Sameness.{same_bytes}

-- cells of an address; bytes of a cell's value
abbrev pub most_cells : ℕ
most_cells = 64

abbrev pub most_bytes : ℕ
most_bytes = 1048576

-- without a value the stamp is 0, and a value is one of the cell's type and size
abbrev pub Holds : CellSpec → Option TypedValue → ℕ → Type 0
Holds spec None stamp = stamp ≡ 0
Holds spec (Some value) stamp = (value.has_value ≡ true) × (value.typename ≡ spec.typename) × (length value.value ≤ most_bytes)

abbrev pub Each : (Cell → Type 0) → List Cell → Type 0
Each P [] = Unit {0}
Each P (cell ∷ cells) = P cell × Each P cells

abbrev pub IsKept : Cell → Type 0
IsKept cell = Holds cell.spec cell.value cell.stamp

abbrev pub name_of : Cell → List ℕ
name_of cell = cell.spec.name

-- at most 64 cells, each name once
pub record AreCells (cells : List Cell) : Type 0 where
  pub few : length cells ≤ most_cells
  pub distinct : IsDistinct same_bytes (map name_of cells)
  pub kept : Each IsKept cells

-- a cell is kept under its name
abbrev pub AreNamed : List (List ℕ × Cell) → Type 0
AreNamed [] = Unit {0}
AreNamed (entry ∷ entries) = (entry.0 ≡ entry.1.spec.name) × AreNamed entries

abbrev pub after_each : (Cell → Cell) → List ℕ × Cell → List ℕ × Cell
after_each change entry = (entry.0, change entry.1)

-- the cell under a name is changed
abbrev pub IsSet : (Cell → Cell) → List ℕ → List (List ℕ × Cell) → List (List ℕ × Cell) → Type 0
IsSet change name old new = (cell : Cell) × (lookup (same_bytes name) old ≡ Some cell) × (new ≡ set_value (same_bytes name) old (change cell))

-- a cell without a value is there behind the others, where it is new
abbrev pub IsAdded : CellSpec → Bool → List (List ℕ × Cell) → List (List ℕ × Cell) → Type 0
IsAdded spec true old new = new ≡ old ++ (spec.name, empty spec) ∷ []
IsAdded spec false old new = new ≡ old

abbrev pub under_name : Cell → List ℕ × Cell
under_name cell = (cell.spec.name, cell)
