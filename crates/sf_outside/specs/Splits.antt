-- The lists of an ingress.
use Rattle.std.specs.Prelude.{◌≡◌, ℕ, List, [], ◌++◌, Option, Some, None, slice_get, unwrap_or}
use Rattle.sf_outside.specs.declared.ingress.IngressRecord.{IngressRecord}

abbrev pub Lists : Type 0
Lists = List (List IngressRecord)

-- the list of a split; a split past the lists is empty
abbrev pub split_of : Lists → ℕ → List IngressRecord
split_of lists split = unwrap_or (slice_get lists split) []

-- record number offset of a split
abbrev pub record_at : Lists → ℕ → ℕ → Option IngressRecord
record_at lists split offset = slice_get (split_of lists split) offset

-- each list goes on, and keeps what it had
abbrev pub GrowTo : Lists → Lists → Type 0
GrowTo old new = (split : ℕ) → (rest : List IngressRecord) × (split_of new split ≡ split_of old split ++ rest)

abbrev pub Grows : Option Lists → Option Lists → Type 0
Grows (Some old) (Some new) = GrowTo old new
Grows (Some old) None = ⊥
Grows None (Some new) = ⊥
Grows None None = Unit {0}

-- what a read answered is what the lists have there
abbrev pub Reads : Option Lists → ℕ → ℕ → Option IngressRecord → Type 0
Reads None split offset found = Unit {0}
Reads (Some lists) split offset found = found ≡ record_at lists split offset
