-- What the calls answer.
use Rattle.std.specs.Prelude.{◌≡◌, ℕ, nat_le, nat_lt, Bool, false, true, if◌then◌else◌, List, length, Option, Some, None, Result, Ok, Err}
use Rattle.typed_values.specs.declared.cell.CellSpec.{CellSpec}
use Rattle.typed_values.specs.declared.cells.Cell.{Cell}
use Rattle.typed_values.specs.declared.value.TypedValue.{TypedValue}
use Rattle.typed_values.specs.Sameness.{same_bytes}
use Rattle.typed_values.specs.Cells.{found}
use Rattle.state_cells.specs.declared.fault.CellFault.{CellFault}
use Rattle.state_cells.specs.declared.fault.CellFault.TheVariants.{UnknownName, TypeDiffers, TooMany, TooLarge, OutOfMemory}
use Rattle.state_cells.specs.Kept.{most_cells, most_bytes}

-- whether the name of a declaration is new
abbrev pub declared : CellSpec → Option Cell → ℕ → Result Bool CellFault
declared spec (Some cell) count = if same_bytes spec.typename cell.spec.typename then Ok false else Err TypeDiffers
declared spec None count = if nat_le most_cells count then Err TooMany else Ok true

abbrev pub registering : CellSpec → List Cell → Result Bool CellFault
registering spec cells = declared spec (found spec.name cells) (length cells)

-- memory may be wanted for a new cell alone
abbrev pub Answers : Result Bool CellFault → Result Bool CellFault → Type 0
Answers wanted (Ok is_new) = wanted ≡ Ok is_new
Answers wanted (Err OutOfMemory) = wanted ≡ Ok true
Answers wanted (Err UnknownName) = wanted ≡ Err UnknownName
Answers wanted (Err TypeDiffers) = wanted ≡ Err TypeDiffers
Answers wanted (Err TooMany) = wanted ≡ Err TooMany
Answers wanted (Err TooLarge) = wanted ≡ Err TooLarge

-- whether a cell takes a value
abbrev pub taking : TypedValue → Option Cell → Result (Unit {0}) CellFault
taking value None = Err UnknownName
taking value (Some cell) =
    if same_bytes cell.spec.typename value.typename then (if nat_lt most_bytes (length value.value) then Err TooLarge else Ok tt)
    else Err TypeDiffers

abbrev pub modifying : List ℕ → TypedValue → List Cell → Result (Unit {0}) CellFault
modifying name value cells = taking value (found name cells)

abbrev pub clearing : Option Cell → Result (Unit {0}) CellFault
clearing None = Err UnknownName
clearing (Some cell) = Ok tt

abbrev pub deleting : List ℕ → List Cell → Result (Unit {0}) CellFault
deleting name cells = clearing (found name cells)
