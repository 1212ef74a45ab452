-- What a parse of bytes says of their front, and what a reader says of the front of the input.
use Rattle.std.specs.Prelude.{ℕ, Bool, true, false, ◌≤◌, ◌⊎◌, List, length, take, map, All}
use Rattle.httparse.specs.Spans.{IsHeaderWithin, header_bytes}
use Rattle.httparse.specs.declared.spans.HeaderSpan.{HeaderSpan}
use Rattle.endpoint_http.specs.Parts.{Header, IsPart, HasNone, NeverBegins, HasTooManyLines, MayBecome, IsRefused, EndsInside}
use Rattle.endpoint_http.specs.declared.fault.HttpFault.{HttpFault}
use Rattle.endpoint_http.specs.declared.fault.HttpFault.TheVariants.{Head, Chunk, Cut}
use Rattle.endpoint_http.specs.declared.part.Part.{Part}
use Rattle.endpoint_http.specs.declared.part.Part.TheVariants.{Response, Request, ChunkLine, Trailer}
use Rattle.endpoint_http.specs.declared.part.Start.{Start}
use Rattle.endpoint_http.specs.declared.part.Start.TheVariants.{Status, Post, OtherMethod, Size, Nothing}
use Rattle.endpoint_http.specs.declared.part.Found.{Found}
use Rattle.endpoint_http.specs.declared.part.Parsed.{Parsed}
use Rattle.endpoint_http.specs.declared.part.Parsed.TheVariants.{Whole, Unfinished, Refused}

abbrev pub status_of : Start → ℕ
status_of (Status code) = code
status_of Post = 0
status_of OtherMethod = 0
status_of (Size n) = 0
status_of Nothing = 0

abbrev pub size_of : Start → ℕ
size_of (Status code) = 0
size_of Post = 0
size_of OtherMethod = 0
size_of (Size n) = n
size_of Nothing = 0

abbrev pub is_post : Start → Bool
is_post (Status code) = false
is_post Post = true
is_post OtherMethod = false
is_post (Size n) = false
is_post Nothing = false

abbrev pub refusal_of : Part → HttpFault
refusal_of Response = Head
refusal_of Request = Head
refusal_of ChunkLine = Chunk
refusal_of Trailer = Head

-- the header lines that so many spans cover
abbrev pub headers_at : List ℕ → List HeaderSpan → ℕ → List Header
headers_at bytes spans count = map (header_bytes bytes) (take count spans)

-- the part stands at the front of the bytes, and the spans cover its header lines
pub record IsFound (part : Part) (bytes : List ℕ) (spans : List HeaderSpan) (found : Found) : Type 0 where
  pub in_bytes : found.len ≤ length bytes
  pub in_lines : found.headers ≤ 64
  pub within : All (IsHeaderWithin (length bytes)) (take found.headers spans)
  pub is_part : IsPart part (take found.len bytes) found.start (headers_at bytes spans found.headers)

abbrev pub IsParsed : Part → List ℕ → List HeaderSpan → Parsed → Type 0
IsParsed part bytes spans (Whole found) = IsFound part bytes spans found
IsParsed part bytes spans Unfinished = HasNone part bytes × MayBecome part bytes
IsParsed part bytes spans Refused = NeverBegins part bytes ⊎ HasTooManyLines part bytes

-- why the input does not begin with such a part
pub data PartFault (part : Part) (bytes : List ℕ) : HttpFault → Type 0 where
  refused : IsRefused part bytes → PartFault part bytes (refusal_of part)
  cut : EndsInside part bytes → PartFault part bytes Cut
