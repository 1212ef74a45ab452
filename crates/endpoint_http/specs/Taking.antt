-- What is taken off the front of the input, where it is told.
use Rattle.std.specs.Prelude.{◌≡◌, ℕ, ◌≤◌, List, ◌++◌, length, take, drop, Option, Some}
use Rattle.endpoint_http.specs.Chunks.{crlf, IsNoLineEnd, EndsInLineEnd}
use Rattle.endpoint_http.specs.declared.fault.HttpFault.{HttpFault}
use Rattle.endpoint_http.specs.declared.fault.HttpFault.TheVariants.{Chunk, Cut}

-- the first bytes, so many, stand behind those that were there
pub record Takes (count : ℕ) (had bytes now : List ℕ) (left : Option (List ℕ)) : Type 0 where
  pub enough : count ≤ length bytes
  pub taken : now ≡ had ++ take count bytes
  pub rest : left ≡ Some (drop count bytes)

abbrev pub LineEnds : List ℕ → Option (List ℕ) → Type 0
LineEnds bytes left = (rest : List ℕ) × (bytes ≡ crlf ++ rest) × (left ≡ Some rest)

pub data LineEndFault (bytes : List ℕ) : HttpFault → Type 0 where
  other : IsNoLineEnd bytes → LineEndFault bytes Chunk
  cut : EndsInLineEnd bytes → LineEndFault bytes Cut
