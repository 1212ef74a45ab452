-- What an invocation keeps of a cell.
use Rattle.std.proofs.Common.{◌≡◌, ℕ, Bool, true, false, Option, Some, None, if◌then◌else◌, refl}
use Rattle.typed_values.specs.declared.cell.Expiry.{Expiry}
use Rattle.typed_values.specs.declared.cell.Expiry.TheVariants.{Never, AfterWrite, AfterInvoke}
use Rattle.typed_values.specs.declared.cell.CellSpec.{CellSpec}
use Rattle.typed_values.specs.declared.cells.Cell.{Cell}
use Rattle.typed_values.specs.declared.value.TypedValue.{TypedValue}
use Rattle.typed_values.specs.Cells.{invoked, is_expired, emptied, used}
use Rattle.state_cells.specs.Kept.{IsKept, Holds}

pub invoked-name : (moment : ℕ) (c : Cell) → (invoked moment c).spec.name ≡ c.spec.name
invoked-name moment c = by (is_expired moment c)
  where
    by : (gone : Bool) → (if gone then emptied c else record { spec = c.spec; value = c.value; stamp = used c.spec.mode c.value c.stamp moment }).spec.name ≡ c.spec.name
    by true = refl
    by false = refl

still-holds : (spec : CellSpec) (value : Option TypedValue) (mode : Expiry) (stamp moment : ℕ) → Holds spec value stamp → Holds spec value (used mode value stamp moment)
still-holds spec None Never stamp moment holds = holds
still-holds spec None AfterWrite stamp moment holds = holds
still-holds spec None AfterInvoke stamp moment holds = holds
still-holds spec (Some value) mode stamp moment holds = holds

pub invoked-kept : (moment : ℕ) (c : Cell) → IsKept c → IsKept (invoked moment c)
invoked-kept moment c kept = by (is_expired moment c)
  where
    by : (gone : Bool) → IsKept (if gone then emptied c else record { spec = c.spec; value = c.value; stamp = used c.spec.mode c.value c.stamp moment })
    by true = refl
    by false = still-holds c.spec c.value c.spec.mode c.stamp moment kept
