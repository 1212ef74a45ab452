-- What is written of a request and of a response (RFC 9112 sections 3, 4 and 6.2; RFC 9110 sections 7.2 and 15).
use Rattle.std.specs.Prelude.{◌≡◌, ℕ, ◌≤◌, ◌==◌, List, [], ◌∷◌, ◌++◌, length, take, Option, Result, Ok, Err, codes, if◌then◌else◌}
use Rattle.std.specs.Fmt.{decimal}
use Rattle.address_routing.specs.declared.http_target.HttpTarget.{HttpTarget}
use Rattle.sf_outside.specs.Told.{Rose, more}
use Rattle.endpoint_http.specs.Chunks.{crlf}
use Rattle.endpoint_http.specs.declared.fault.HttpFault.{HttpFault}
use Rattle.endpoint_http.specs.declared.fault.HttpFault.TheVariants.{Head, Status, Compressed, Chunk, OverLimit, Cut, ReadFault, WriteFault, Method, OutOfMemory}

unfoldable pub line : List ℕ → List ℕ
line text = text ++ crlf

-- the port with its colon, unless it is the one of the scheme
abbrev pub port_part : ℕ → List ℕ
port_part port = if port == 80 then [] else 58 ∷ decimal port

abbrev pub request_line : HttpTarget → List ℕ
request_line target = line (codes "POST " ++ (target.path ++ codes " HTTP/1.1"))

abbrev pub host_line : HttpTarget → List ℕ
host_line target = line (codes "Host: " ++ (target.host ++ port_part target.port))

unfoldable pub type_line : List ℕ
type_line = line (codes "Content-Type: application/octet-stream")

abbrev pub length_line : ℕ → List ℕ
length_line count = line (codes "Content-Length: " ++ decimal count)

-- the last lines of each head
unfoldable pub closing : List ℕ
closing = line (codes "Connection: close") ++ crlf

-- the lines of a head before so many bytes
abbrev pub content_lines : ℕ → List ℕ
content_lines count = type_line ++ (length_line count ++ closing)

abbrev pub request_head : HttpTarget → ℕ → List ℕ
request_head target count = request_line target ++ (host_line target ++ content_lines count)

unfoldable pub request_text : HttpTarget → List ℕ → List ℕ
request_text target body = request_head target (length body) ++ body

-- why a request was not answered as it asked
unfoldable pub reason_of : ℕ → List ℕ
reason_of status =
    if status == 200 then codes "OK"
    else if status == 400 then codes "Bad Request"
    else if status == 404 then codes "Not Found"
    else if status == 405 then codes "Method Not Allowed"
    else if status == 413 then codes "Content Too Large"
    else if status == 415 then codes "Unsupported Media Type"
    else []

abbrev pub status_line : ℕ → List ℕ
status_line status = line (codes "HTTP/1.1 " ++ (decimal status ++ (32 ∷ reason_of status)))

-- a response with a body
unfoldable pub full_text : List ℕ → List ℕ
full_text body = (status_line 200 ++ content_lines (length body)) ++ body

-- one without
unfoldable pub empty_text : ℕ → List ℕ
empty_text status = status_line status ++ (length_line 0 ++ closing)

abbrev pub response_text : ℕ → List ℕ → List ℕ
response_text status body = if status == 200 then full_text body else empty_text status

-- a part of the bytes was written, from the front
abbrev pub IsPartWritten : Option (List ℕ) → Option (List ℕ) → List ℕ → Type 0
IsPartWritten before after bytes = (k : ℕ) × (k ≤ length bytes) × (after ≡ more before (take k bytes))

-- WriteFault comes only where the count of faults rose; with any other answer it stands, and no fault comes but want of memory
abbrev pub WriteCause : ℕ → ℕ → Result (Unit {0}) HttpFault → Type 0
WriteCause before now (Ok x) = now ≡ before
WriteCause before now (Err Head) = ⊥
WriteCause before now (Err (Status code)) = ⊥
WriteCause before now (Err Compressed) = ⊥
WriteCause before now (Err Chunk) = ⊥
WriteCause before now (Err OverLimit) = ⊥
WriteCause before now (Err Cut) = ⊥
WriteCause before now (Err ReadFault) = ⊥
WriteCause before now (Err WriteFault) = (before ≤ now) × Rose before now
WriteCause before now (Err Method) = ⊥
WriteCause before now (Err OutOfMemory) = now ≡ before
