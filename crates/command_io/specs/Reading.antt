-- A source that is read to its end.
use Rattle.std.specs.Prelude.{◌≤◌, ℕ, List, length, Option}
use Rattle.sf_outside.specs.Left.{AtEnd}

-- bytes up to the limit are all that there were
abbrev pub IsWhole : ℕ → List ℕ → Option (List ℕ) → Type 0
IsWhole limit heard left = length heard ≤ limit → AtEnd left
