-- The body of a message over all the bytes to the end of input, or the first refusal (RFC 9112 sections 2 to 7).
use Rattle.std.specs.Prelude.{◌≡◌, ◌≢◌, ℕ, suc, ◌≤◌, ◌<◌, ◌⊎◌, List, [], length, take, Result, Ok, Err, nat_lt, if◌then◌else◌}
use Rattle.endpoint_http.specs.Answers.{Answer}
use Rattle.endpoint_http.specs.Parts.{Header, Begins, IsRefused, EndsInside}
use Rattle.endpoint_http.specs.Fields.{framing_of}
use Rattle.endpoint_http.specs.Chunks.{IsChunked}
use Rattle.endpoint_http.specs.declared.fault.HttpFault.{HttpFault}
use Rattle.endpoint_http.specs.declared.fault.HttpFault.TheVariants.{Head, Status as HasStatus, OverLimit, Cut, Method}
use Rattle.endpoint_http.specs.declared.fields.Framing.{Framing}
use Rattle.endpoint_http.specs.declared.fields.Framing.TheVariants.{Chunks, Length, Unstated}
use Rattle.endpoint_http.specs.declared.part.Part.{Part}
use Rattle.endpoint_http.specs.declared.part.Part.TheVariants.{Response, Request, ChunkLine, Trailer}
use Rattle.endpoint_http.specs.declared.part.Start.TheVariants.{Status, Post, OtherMethod}

-- a body of so many bytes
abbrev pub counted : ℕ → ℕ → List ℕ → Answer
counted limit count bytes = if nat_lt limit count then Err OverLimit else (if nat_lt (length bytes) count then Err Cut else Ok (take count bytes))

-- a body that goes on to the end of input
abbrev pub to_the_end : ℕ → List ℕ → Answer
to_the_end limit bytes = if nat_lt limit (length bytes) then Err OverLimit else Ok bytes

-- a body of which nothing says how it is framed goes on to the end of input in a response, and is empty in a request
abbrev pub unframed : Part → ℕ → List ℕ → Answer
unframed Response limit bytes = to_the_end limit bytes
unframed Request limit bytes = Ok []
unframed ChunkLine limit bytes = Ok []
unframed Trailer limit bytes = Ok []

-- the answer to the bytes behind the head of such a message (RFC 9112 section 6.3)
abbrev pub IsBody : Part → ℕ → Result Framing HttpFault → List ℕ → Answer → Type 0
IsBody part limit (Err fault) bytes answer = answer ≡ Err fault
IsBody part limit (Ok Chunks) bytes answer = IsChunked limit [] bytes answer
IsBody part limit (Ok (Length count)) bytes answer = answer ≡ counted limit count bytes
IsBody part limit (Ok Unstated) bytes answer = answer ≡ unframed part limit bytes

-- a 204 has no body, whatever its header lines say of one (RFC 9110 section 15.3.5); what they say wrong is refused all the same
abbrev pub IsEmpty : Result Framing HttpFault → Answer → Type 0
IsEmpty (Err fault) answer = answer ≡ Err fault
IsEmpty (Ok framing) answer = answer ≡ Ok []

-- the answer to a response, before which so many interim ones may stand (RFC 9112 section 4, RFC 9110 section 15.2)
pub data IsResponse (limit : ℕ) : ℕ → List ℕ → Answer → Type 0 where
  bad_head : (interims : ℕ) (bytes : List ℕ) → IsRefused Response bytes → IsResponse limit interims bytes (Err Head)
  cut_head : (interims : ℕ) (bytes : List ℕ) → EndsInside Response bytes → IsResponse limit interims bytes (Err Cut)
  interim : (interims : ℕ) (bytes rest : List ℕ) (code : ℕ) (headers : List Header) (answer : Answer) → Begins Response bytes (Status code) headers rest
      → 100 ≤ code → code < 200 → IsResponse limit interims rest answer → IsResponse limit (suc interims) bytes answer
  interim_too_many : (bytes rest : List ℕ) (code : ℕ) (headers : List Header) → Begins Response bytes (Status code) headers rest → 100 ≤ code → code < 200
      → IsResponse limit 0 bytes (Err Head)
  no_success : (interims : ℕ) (bytes rest : List ℕ) (code : ℕ) (headers : List Header) → Begins Response bytes (Status code) headers rest
      → (code < 100) ⊎ (300 ≤ code) → IsResponse limit interims bytes (Err (HasStatus code))
  no_content : (interims : ℕ) (bytes rest : List ℕ) (headers : List Header) (answer : Answer) → Begins Response bytes (Status 204) headers rest
      → IsEmpty (framing_of headers) answer → IsResponse limit interims bytes answer
  success : (interims : ℕ) (bytes rest : List ℕ) (code : ℕ) (headers : List Header) (answer : Answer) → Begins Response bytes (Status code) headers rest
      → 200 ≤ code → code < 300 → code ≢ 204 → IsBody Response limit (framing_of headers) rest answer → IsResponse limit interims bytes answer

-- the answer to a request
pub data IsRequest (limit : ℕ) (bytes : List ℕ) : Answer → Type 0 where
  bad_head : IsRefused Request bytes → IsRequest limit bytes (Err Head)
  cut_head : EndsInside Request bytes → IsRequest limit bytes (Err Cut)
  other_method : (rest : List ℕ) (headers : List Header) → Begins Request bytes OtherMethod headers rest → IsRequest limit bytes (Err Method)
  post : (rest : List ℕ) (headers : List Header) (answer : Answer) → Begins Request bytes Post headers rest
      → IsBody Request limit (framing_of headers) rest answer → IsRequest limit bytes answer
