-- The parts of a message that are read whole (RFC 9112): the head of a response or of a request, a chunk line, and the trailer
-- section behind the last chunk. What stands at the front of the input, of which no part is longer than 16,384 bytes or has more
-- than 64 header lines.
use Rattle.std.specs.Prelude.{◌≡◌, ℕ, ◌≤◌, ◌<◌, ◌⊎◌, List, [], ◌∷◌, ◌++◌, length, take, map, All, codes, bytes_eq, if◌then◌else◌}
use Rattle.httparse.specs.Grammar.{LineEnd, Field, IsField, print_section, ChunkLine, IsChunkLine, print_chunk_line, chunk_size, RequestHead, IsRequestHead, print_request, EndsInTarget, ResponseHead, IsResponseHead, print_response, status_code}
use Rattle.httparse.specs.Spans.{name_and_value}
use Rattle.endpoint_http.specs.declared.part.Part.{Part}
use Rattle.endpoint_http.specs.declared.part.Part.TheVariants.{Response, Request, ChunkLine as Line, Trailer}
use Rattle.endpoint_http.specs.declared.part.Start.{Start}
use Rattle.endpoint_http.specs.declared.part.Start.TheVariants.{Status, Post, OtherMethod, Size, Nothing}

-- a name, and a value without the white space around it
abbrev pub Header : Type 0
Header = List ℕ × List ℕ

abbrev pub started_by : List ℕ → Start
started_by method = if bytes_eq method (codes "POST") then Post else OtherMethod

-- the bytes are such a part, with this start and these header lines (RFC 9112 sections 3, 4, 5, 7.1 and 7.1.2)
abbrev pub IsPart : Part → List ℕ → Start → List Header → Type 0
IsPart Response bytes start headers =
    (head : ResponseHead) × IsResponseHead head × (bytes ≡ print_response head) × (start ≡ Status (status_code head))
    × (headers ≡ map name_and_value head.fields)
IsPart Request bytes start headers =
    (head : RequestHead) × IsRequestHead head × (bytes ≡ print_request head) × (start ≡ started_by head.method) × (headers ≡ map name_and_value head.fields)
IsPart Line bytes start headers =
    (line : ChunkLine) × IsChunkLine line × (bytes ≡ print_chunk_line line) × (start ≡ Size (chunk_size line)) × (headers ≡ [])
IsPart Trailer bytes start headers =
    (fields : List Field) × (last : LineEnd) × All IsField fields × (bytes ≡ print_section fields last) × (start ≡ Nothing)
    × (headers ≡ map name_and_value fields)

-- the input begins with such a part, within the limits, and goes on with rest
pub record Begins (part : Part) (bytes : List ℕ) (start : Start) (headers : List Header) (rest : List ℕ) : Type 0 where
  pub text : List ℕ
  pub bytes_are : bytes ≡ text ++ rest
  pub is_part : IsPart part text start headers
  pub in_bytes : length text ≤ 16384
  pub in_lines : length headers ≤ 64

-- no front of the bytes is such a part
abbrev pub HasNone : Part → List ℕ → Type 0
HasNone part bytes = (text rest : List ℕ) (start : Start) (headers : List Header) → bytes ≡ text ++ rest → IsPart part text start headers → ⊥

-- nor will one be, whatever comes behind them
abbrev pub NeverBegins : Part → List ℕ → Type 0
NeverBegins part bytes = (more : List ℕ) → HasNone part (bytes ++ more)

-- the first 16,384 bytes are there, and no part ends in them
abbrev pub IsTooLong : Part → List ℕ → Type 0
IsTooLong part bytes = (16384 ≤ length bytes) × HasNone part (take 16384 bytes)

-- a front of the bytes and an empty line are a part of more than 64 header lines
abbrev pub HasTooManyLines : Part → List ℕ → Type 0
HasTooManyLines part bytes =
    (front : List ℕ) × (rest : List ℕ) × (start : Start) × (headers : List Header)
    × (bytes ≡ front ++ rest) × IsPart part (front ++ 10 ∷ []) start headers × (64 < length headers)

abbrev pub IsRefused : Part → List ℕ → Type 0
IsRefused part bytes = NeverBegins part bytes ⊎ (IsTooLong part bytes ⊎ HasTooManyLines part bytes)

-- the bytes end inside a request's target, of which no parser says whether it is UTF-8 before it ends
abbrev pub InTarget : Part → List ℕ → Type 0
InTarget Response bytes = ⊥
InTarget Request bytes = EndsInTarget bytes
InTarget Line bytes = ⊥
InTarget Trailer bytes = ⊥

-- more bytes can make such a part of these
abbrev pub MayBecome : Part → List ℕ → Type 0
MayBecome part bytes = ((more : List ℕ) × (start : Start) × (headers : List Header) × IsPart part (bytes ++ more) start headers) ⊎ InTarget part bytes

-- the input ends inside such a part
abbrev pub EndsInside : Part → List ℕ → Type 0
EndsInside part bytes = (length bytes < 16384) × HasNone part bytes × MayBecome part bytes
