-- Which refusals a request can have.
use Rattle.std.proofs.Common.{◌≡◌, ℕ, ◌++◌, List, [], ◌∷◌, take, cond, true, false, Option, Some, None, Result, Ok, Err, refl, sym, ◌∙◌, ap, subst, arith}
use Rattle.std.specs.Prelude.{◌==◌, codes, IfOk}
use Rattle.endpoint_http.specs.Answers.{Answer, Told, Blames, Gives}
use Rattle.endpoint_http.specs.Parts.{Header}
use Rattle.endpoint_http.specs.Fields.{is_like, each_is, has, length_of, agreed, and_then, stated_length, framed_by, unless_compressed, framing_of}
use Rattle.endpoint_http.specs.Chunks.{IsChunked, bad_line, cut_line, over, cut_data, bad_end, cut_end, next, bad_trailer, cut_trailer, last}
use Rattle.endpoint_http.specs.Framed.{counted, IsBody, IsRequest, bad_head, cut_head, other_method, post}
use Rattle.endpoint_http.specs.declared.fault.HttpFault.{HttpFault}
use Rattle.endpoint_http.specs.declared.fault.HttpFault.TheVariants.{Head, Status, Compressed, Chunk, OverLimit, Cut, ReadFault, WriteFault, Method, OutOfMemory}
use Rattle.endpoint_http.specs.declared.fields.Framing.{Framing}
use Rattle.endpoint_http.specs.declared.fields.Framing.TheVariants.{Chunks, Length, Unstated}
use Rattle.endpoint_http.specs.declared.part.Part.TheVariants.{Request}
use Rattle.function_server.specs.declared.serving.Reply.{Reply}
use Rattle.function_server.specs.Tables.{Service}
use Rattle.function_server.specs.Answering.{bytes_for}
use Rattle.function_server.specs.Serving.{body_limit, reply_with, IsReply, IsRefusal}

-- ---- no other fault is a request's

abbrev OfRequest : HttpFault → Type 0
OfRequest Head = Unit {0}
OfRequest (Status code) = ⊥
OfRequest Compressed = Unit {0}
OfRequest Chunk = Unit {0}
OfRequest OverLimit = Unit {0}
OfRequest Cut = Unit {0}
OfRequest ReadFault = ⊥
OfRequest WriteFault = ⊥
OfRequest Method = Unit {0}
OfRequest OutOfMemory = ⊥

abbrev Refuses : {A : Type 0} → Result A HttpFault → Type 0
Refuses (Ok x) = Unit {0}
Refuses (Err fault) = OfRequest fault

agreed_or : (n stated : Option ℕ) → Refuses (agreed n stated)
agreed_or None stated = tt
agreed_or (Some n) None = tt
agreed_or (Some n) (Some stated) = elim (n == stated) as (λ b. Refuses (cond b (Ok (Some stated)) (Err Head))) [ true ↦ tt | false ↦ tt ]

then_or : (now : Result (Option ℕ) HttpFault) (more : Option ℕ → Result (Option ℕ) HttpFault) → Refuses now → ((stated : Option ℕ) → Refuses (more stated)) → Refuses (and_then now more)
then_or (Ok stated) more first behind = behind stated
then_or (Err fault) more first behind = first

stated_or : (stated : Option ℕ) (headers : List Header) → Refuses (stated_length stated headers)
unfolding stated_length
stated_or stated [] = tt
stated_or stated (h ∷ headers) = elim (is_like h.0 (codes "content-length")) as (λ b. Refuses (cond b (and_then (agreed (length_of h.1) stated) (λ now. stated_length now headers)) (stated_length stated headers))) [
  | true ↦ then_or (agreed (length_of h.1) stated) (λ now. stated_length now headers) (agreed_or (length_of h.1) stated) (λ now. stated_or now headers)
  | false ↦ stated_or stated headers
]

compressed_or : (headers : List Header) (stated : Result (Option ℕ) HttpFault) → Refuses stated → Refuses (unless_compressed headers stated)
compressed_or headers (Err fault) first = first
compressed_or headers (Ok stated) first = elim (each_is (codes "content-encoding") (codes "identity") headers) as (λ b. Refuses (cond b (Ok (framed_by (has (codes "transfer-encoding") headers) stated)) (Err Compressed))) [ true ↦ tt | false ↦ tt ]

framing_or : (headers : List Header) → Refuses (framing_of headers)
framing_or headers = elim (each_is (codes "transfer-encoding") (codes "chunked") headers) as (λ b. Refuses (cond b (unless_compressed headers (stated_length None headers)) (Err Head))) [
  | true ↦ compressed_or headers (stated_length None headers) (stated_or None headers)
  | false ↦ tt
]

chunked_or : (limit : ℕ) (got bytes : List ℕ) (answer : Answer) → IsChunked limit got bytes answer → Refuses answer
chunked_or limit got bytes answer (bad_line g b h) = tt
chunked_or limit got bytes answer (cut_line g b h) = tt
chunked_or limit got bytes answer (over g b behind size line positive past) = tt
chunked_or limit got bytes answer (cut_data g b behind size fit short) = tt
chunked_or limit got bytes answer (bad_end g b behind size fit enough wrong) = tt
chunked_or limit got bytes answer (cut_end g b behind size fit enough ended) = tt
chunked_or limit got bytes answer (next g b behind rest size a fit enough is goes_on) = chunked_or limit (g ++ take size behind) rest a goes_on
chunked_or limit got bytes answer (bad_trailer g b behind line h) = tt
chunked_or limit got bytes answer (cut_trailer g b behind line h) = tt
chunked_or limit got bytes answer (last g b behind rest headers line h) = tt

counted_or : (limit count : ℕ) (bytes : List ℕ) → Refuses (counted limit count bytes)
counted_or limit count bytes = grind arith

body_or : (limit : ℕ) (framing : Result Framing HttpFault) (bytes : List ℕ) (answer : Answer) → Refuses framing → IsBody Request limit framing bytes answer → Refuses answer
body_or limit (Err fault) bytes answer first is = subst (λ (a : Answer). Refuses a) (sym is) first
body_or limit (Ok Chunks) bytes answer first is = chunked_or limit [] bytes answer is
body_or limit (Ok (Length count)) bytes answer first is = subst (λ (a : Answer). Refuses a) (sym is) (counted_or limit count bytes)
body_or limit (Ok Unstated) bytes answer first is = subst (λ (a : Answer). Refuses a) (sym is) tt

request_or : (limit : ℕ) (bytes : List ℕ) (answer : Answer) → IsRequest limit bytes answer → Refuses answer
request_or limit bytes answer (bad_head h) = tt
request_or limit bytes answer (cut_head h) = tt
request_or limit bytes answer (other_method rest headers h) = tt
request_or limit bytes answer (post rest headers a h body) = body_or limit (framing_of headers) rest a (framing_or headers) body

-- ---- the reply to a request

replied : (services : List Service) (left : Option (List ℕ)) (body : List ℕ) (reply : Reply) → Told left (λ bytes. IsRequest body_limit bytes (Ok body))
    → reply ≡ reply_with (bytes_for services body) → IsReply services left reply
replied services left body reply told is = record { request = Ok body; is_request = told; is_reply = ap Some (sym is) }

pub replied_as : (services : List Service) (left : Option (List ℕ)) (body sent : List ℕ) (result : Result Reply HttpFault)
    → Told left (λ bytes. Gives (IsRequest body_limit bytes) (Ok body)) → sent ≡ body → IfOk result (λ reply. reply ≡ reply_with (bytes_for services sent)) → IfOk result (IsReply services left)
replied_as services left body sent (Ok reply) told same is = replied services left body reply told (is ∙ ap (λ b. reply_with (bytes_for services b)) same)
replied_as services left body sent (Err fault) told same is = tt

-- a fault that no request has was told of no bytes
untold : (services : List Service) (left : Option (List ℕ)) (fault : HttpFault) → (OfRequest fault → ⊥) → Told left (λ bytes. IsRequest body_limit bytes (Err fault))
    → Told left (λ bytes. IsRequest body_limit bytes (Err Head))
untold services None fault other told = tt
untold services (Some bytes) fault other told = absurd (other (request_or body_limit bytes (Err fault) told))

pub refused : (services : List Service) (left : Option (List ℕ)) (fault : HttpFault) (result : Result Reply HttpFault)
    → Told left (λ bytes. Blames (λ e. IsRequest body_limit bytes (Err e)) fault) → IsRefusal fault result → IfOk result (IsReply services left)
refused services left Head result told is = rw is (record { request = Err Head; is_request = told; is_reply = refl })
refused services left (Status code) result told is = rw is (record { request = Err Head; is_request = untold services left (Status code) (λ x. x) told; is_reply = refl })
refused services left Compressed result told is = rw is (record { request = Err Compressed; is_request = told; is_reply = refl })
refused services left Chunk result told is = rw is (record { request = Err Chunk; is_request = told; is_reply = refl })
refused services left OverLimit result told is = rw is (record { request = Err OverLimit; is_request = told; is_reply = refl })
refused services left Cut result told is = rw is (record { request = Err Cut; is_request = told; is_reply = refl })
refused services left ReadFault result told is = rw is tt
refused services left WriteFault result told is = rw is (record { request = Err Head; is_request = untold services left WriteFault (λ x. x) told; is_reply = refl })
refused services left Method result told is = rw is (record { request = Err Method; is_request = told; is_reply = refl })
refused services left OutOfMemory result told is = rw is tt
