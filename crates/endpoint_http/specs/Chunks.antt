-- A body in chunks (RFC 9112 section 7.1): a line with a size, so many bytes, CR LF, and so on up to a size of 0, behind which stand
-- trailer lines and an empty line.
use Rattle.std.specs.Prelude.{◌≡◌, ◌≢◌, ℕ, ◌+◌, ◌≤◌, ◌<◌, ◌⊎◌, List, [], ◌∷◌, ◌++◌, length, take, drop, Ok, Err}
use Rattle.endpoint_http.specs.Answers.{Answer}
use Rattle.endpoint_http.specs.Parts.{Header, Begins, IsRefused, EndsInside}
use Rattle.endpoint_http.specs.declared.fault.HttpFault.TheVariants.{Head, Chunk, OverLimit, Cut}
use Rattle.endpoint_http.specs.declared.part.Part.TheVariants.{ChunkLine, Trailer}
use Rattle.endpoint_http.specs.declared.part.Start.TheVariants.{Size, Nothing}

abbrev pub crlf : List ℕ
crlf = 13 ∷ 10 ∷ []

-- what begins otherwise than with CR LF, and what ends inside it
abbrev pub IsNoLineEnd : List ℕ → Type 0
IsNoLineEnd [] = ⊥
IsNoLineEnd (a ∷ []) = a ≢ 13
IsNoLineEnd (a ∷ b ∷ bytes) = (a ≢ 13) ⊎ (b ≢ 10)

abbrev pub EndsInLineEnd : List ℕ → Type 0
EndsInLineEnd bytes = (bytes ≡ []) ⊎ (bytes ≡ 13 ∷ [])

-- a chunk line at the front
abbrev pub Announces : List ℕ → ℕ → List ℕ → Type 0
Announces bytes size behind = Begins ChunkLine bytes (Size size) [] behind

-- a line that announces bytes, of which there is room for in a body that has got so many
pub record Fits (limit : ℕ) (got bytes : List ℕ) (size : ℕ) (behind : List ℕ) : Type 0 where
  pub line : Announces bytes size behind
  pub positive : 0 < size
  pub room : length got + size ≤ limit

-- the answer to the bytes, behind those that the body has got
pub data IsChunked (limit : ℕ) : List ℕ → List ℕ → Answer → Type 0 where
  bad_line : (got bytes : List ℕ) → IsRefused ChunkLine bytes → IsChunked limit got bytes (Err Chunk)
  cut_line : (got bytes : List ℕ) → EndsInside ChunkLine bytes → IsChunked limit got bytes (Err Cut)
  over : (got bytes behind : List ℕ) (size : ℕ) → Announces bytes size behind → 0 < size → limit < length got + size → IsChunked limit got bytes (Err OverLimit)
  cut_data : (got bytes behind : List ℕ) (size : ℕ) → Fits limit got bytes size behind → length behind < size → IsChunked limit got bytes (Err Cut)
  bad_end : (got bytes behind : List ℕ) (size : ℕ) → Fits limit got bytes size behind → size ≤ length behind → IsNoLineEnd (drop size behind)
      → IsChunked limit got bytes (Err Chunk)
  cut_end : (got bytes behind : List ℕ) (size : ℕ) → Fits limit got bytes size behind → size ≤ length behind → EndsInLineEnd (drop size behind)
      → IsChunked limit got bytes (Err Cut)
  next : (got bytes behind rest : List ℕ) (size : ℕ) (answer : Answer) → Fits limit got bytes size behind → size ≤ length behind
      → drop size behind ≡ crlf ++ rest → IsChunked limit (got ++ take size behind) rest answer → IsChunked limit got bytes answer
  bad_trailer : (got bytes behind : List ℕ) → Announces bytes 0 behind → IsRefused Trailer behind → IsChunked limit got bytes (Err Head)
  cut_trailer : (got bytes behind : List ℕ) → Announces bytes 0 behind → EndsInside Trailer behind → IsChunked limit got bytes (Err Cut)
  last : (got bytes behind rest : List ℕ) (headers : List Header) → Announces bytes 0 behind → Begins Trailer behind Nothing headers rest
      → IsChunked limit got bytes (Ok got)
