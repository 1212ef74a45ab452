-- Delays that wait, as contracts see them.
use Rattle.std.specs.Prelude.{◌≡◌, ℕ, List, Option, Some, None}
use Rattle.typed_values.specs.declared.record.Delay.{Delay}

pub record Waiting : Type 0 where
  -- in order of put
  pub delays : List Delay
  -- how many more can be put with no memory
  pub spare : ℕ

-- the one that is due is taken out; where none is, nothing changes
abbrev pub TakesDue : Option (Delay × List Delay) → List Delay → Option Delay → List Delay → Type 0
TakesDue None old result new = (result ≡ None) × (new ≡ old)
TakesDue (Some due) old result new = (result ≡ Some due.0) × (new ≡ due.1)

-- the one of the least due, of it and the others
abbrev pub best_of : Delay × List Delay → Delay
best_of best = best.0
