-- What header lines say of a body (RFC 9112 sections 6.1 to 6.3; RFC 9110 sections 5.1, 8.4 and 8.6).
use Rattle.std.specs.Prelude.{ℕ, ◌^◌, Bool, ◌&&◌, ◌||◌, not, List, [], ◌∷◌, length, map, Option, Some, None, Result, Ok, Err, nat_lt, ◌==◌, if◌then◌else◌, codes, bytes_eq}
use Rattle.std.specs.List.{list_all, list_any}
use Rattle.std.specs.Char.{to_ascii_lowercase}
use Rattle.std.specs.Str.{all_ascii_digits}
use Rattle.std.specs.Str.Parse.{digits_value}
use Rattle.endpoint_http.specs.Parts.{Header}
use Rattle.endpoint_http.specs.declared.fault.HttpFault.{HttpFault}
use Rattle.endpoint_http.specs.declared.fault.HttpFault.TheVariants.{Head, Compressed}
use Rattle.endpoint_http.specs.declared.fields.Framing.{Framing}
use Rattle.endpoint_http.specs.declared.fields.Framing.TheVariants.{Chunks, Length, Unstated}

-- the same without case in ASCII
unfoldable pub is_like : List ℕ → List ℕ → Bool
is_like a b = bytes_eq (map to_ascii_lowercase a) (map to_ascii_lowercase b)

-- there is a header of this name
abbrev pub has : List ℕ → List Header → Bool
has name headers = list_any (λ (h : Header). is_like h.0 name) headers

-- each header of this name has this value
abbrev pub each_is : List ℕ → List ℕ → List Header → Bool
each_is name value headers = list_all (λ (h : Header). not (is_like h.0 name) || is_like h.1 value) headers

abbrev pub below : ℕ → Option ℕ
below n = if nat_lt n (2 ^ 63) then Some n else None

-- a length: decimal digits of a number below 2^63
abbrev pub length_of : List ℕ → Option ℕ
length_of value = if nat_lt 0 (length value) && all_ascii_digits value then below (digits_value 10 value) else None

-- one more length beside the one that stood there
abbrev pub agreed : Option ℕ → Option ℕ → Result (Option ℕ) HttpFault
agreed None stated = Err Head
agreed (Some n) None = Ok (Some n)
agreed (Some n) (Some stated) = if n == stated then Ok (Some stated) else Err Head

-- goes on with a length, and stops at a refusal
abbrev pub and_then : Result (Option ℕ) HttpFault → (Option ℕ → Result (Option ℕ) HttpFault) → Result (Option ℕ) HttpFault
and_then (Ok now) more = more now
and_then (Err e) more = Err e

-- the one length that all headers of this name state, beside the one that stood there
unfoldable pub stated_length : Option ℕ → List Header → Result (Option ℕ) HttpFault
stated_length stated [] = Ok stated
stated_length stated (h ∷ headers) =
    if is_like h.0 (codes "content-length") then and_then (agreed (length_of h.1) stated) (λ now. stated_length now headers) else stated_length stated headers

-- chunks count before a length (RFC 9112 section 6.3, rule 3)
abbrev pub framed_by : Bool → Option ℕ → Framing
framed_by chunked (Some n) = if chunked then Chunks else Length n
framed_by chunked None = if chunked then Chunks else Unstated

abbrev pub unless_compressed : List Header → Result (Option ℕ) HttpFault → Result Framing HttpFault
unless_compressed headers (Err e) = Err e
unless_compressed headers (Ok stated) =
    if each_is (codes "content-encoding") (codes "identity") headers then Ok (framed_by (has (codes "transfer-encoding") headers) stated) else Err Compressed

-- how the body is framed, or the first refusal
abbrev pub framing_of : List Header → Result Framing HttpFault
framing_of headers =
    if each_is (codes "transfer-encoding") (codes "chunked") headers then unless_compressed headers (stated_length None headers) else Err Head
