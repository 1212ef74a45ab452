-- What a connection is served: one request is read, and one reply is written.
use Rattle.std.specs.Prelude.{◌≡◌, ℕ, ◌≤◌, ◌⊎◌, List, [], Option, Some, None, Result, Ok, Err}
use Rattle.sf_outside.specs.Told.{Rose, more}
use Rattle.endpoint_http.specs.Answers.{Answer, Told}
use Rattle.endpoint_http.specs.Framed.{IsRequest}
use Rattle.endpoint_http.specs.Written.{response_text, IsPartWritten}
use Rattle.endpoint_http.specs.declared.fault.HttpFault.{HttpFault}
use Rattle.endpoint_http.specs.declared.fault.HttpFault.TheVariants.{Head, Status, Compressed, Chunk, OverLimit, Cut, ReadFault, WriteFault, Method, OutOfMemory}
use Rattle.function_server.specs.declared.serving.Reply.{Reply}
use Rattle.function_server.specs.Tables.{Service}
use Rattle.function_server.specs.Answering.{Refusal, misspelled, not_served, bytes_for}

-- a reply that says only that there is no answer
abbrev pub bare : ℕ → Reply
bare status = record { status = status; body = [] }

-- a request that has a body (RFC 9110 sections 15.3.1, 15.5.1 and 15.5.5)
abbrev pub reply_with : Result (List ℕ) Refusal → Reply
reply_with (Ok answer) = record { status = 200; body = answer }
reply_with (Err (misspelled fault)) = bare 400
reply_with (Err not_served) = bare 404

-- one that has none (RFC 9110 sections 15.5.1, 15.5.6, 15.5.14 and 15.5.16): it has one of these faults
abbrev pub reply_without : HttpFault → Option Reply
reply_without Head = Some (bare 400)
reply_without (Status code) = None
reply_without Compressed = Some (bare 415)
reply_without Chunk = Some (bare 400)
reply_without OverLimit = Some (bare 413)
reply_without Cut = Some (bare 400)
reply_without ReadFault = None
reply_without WriteFault = None
reply_without Method = Some (bare 405)
reply_without OutOfMemory = None

abbrev pub reply_to : List Service → Answer → Option Reply
reply_to services (Ok body) = Some (reply_with (bytes_for services body))
reply_to services (Err fault) = reply_without fault

-- the most bytes of a request's body
abbrev pub body_limit : ℕ
body_limit = 8388608

-- the reply to the request that stands in the source, where that is told
pub record IsReply (services : List Service) (left : Option (List ℕ)) (reply : Reply) : Type 0 where
  pub request : Answer
  pub is_request : Told left (λ bytes. IsRequest body_limit bytes request)
  pub is_reply : reply_to services request ≡ Some reply

-- the reply was written, whole
pub record IsServed (services : List Service) (left written written_now : Option (List ℕ)) (status : ℕ) : Type 0 where
  pub body : List ℕ
  pub is_reply : IsReply services left (record { status = status; body = body })
  pub whole : written_now ≡ more written (response_text status body)

-- a part of it was written, from the front
pub record IsBroken (services : List Service) (left written written_now : Option (List ℕ)) : Type 0 where
  pub reply : Reply
  pub is_reply : IsReply services left reply
  pub part : IsPartWritten written written_now (response_text reply.status reply.body)

-- what a connection ends with that is not served: no other fault comes
abbrev pub HasEnded : List Service → Option (List ℕ) → Option (List ℕ) → Option (List ℕ) → HttpFault → Type 0
HasEnded services left written written_now Head = ⊥
HasEnded services left written written_now (Status code) = ⊥
HasEnded services left written written_now Compressed = ⊥
HasEnded services left written written_now Chunk = ⊥
HasEnded services left written written_now OverLimit = ⊥
HasEnded services left written written_now Cut = ⊥
HasEnded services left written written_now ReadFault = written_now ≡ written
HasEnded services left written written_now WriteFault = IsBroken services left written written_now
HasEnded services left written written_now Method = ⊥
HasEnded services left written written_now OutOfMemory = (written_now ≡ written) ⊎ IsBroken services left written written_now

-- WriteFault comes only where the sink's count of faults rose; with any other answer it stands
abbrev pub SinkCause : {T : Type 0} → ℕ → ℕ → Result T HttpFault → Type 0
SinkCause before now (Ok x) = now ≡ before
SinkCause before now (Err Head) = now ≡ before
SinkCause before now (Err (Status code)) = now ≡ before
SinkCause before now (Err Compressed) = now ≡ before
SinkCause before now (Err Chunk) = now ≡ before
SinkCause before now (Err OverLimit) = now ≡ before
SinkCause before now (Err Cut) = now ≡ before
SinkCause before now (Err ReadFault) = now ≡ before
SinkCause before now (Err WriteFault) = (before ≤ now) × Rose before now
SinkCause before now (Err Method) = now ≡ before
SinkCause before now (Err OutOfMemory) = now ≡ before

-- what becomes of a fault: a refused request has its reply, and a source that failed and want of memory have none
abbrev pub IsRefusal : HttpFault → Result Reply HttpFault → Type 0
IsRefusal Head reply = reply ≡ Ok (bare 400)
IsRefusal (Status code) reply = reply ≡ Ok (bare 400)
IsRefusal Compressed reply = reply ≡ Ok (bare 415)
IsRefusal Chunk reply = reply ≡ Ok (bare 400)
IsRefusal OverLimit reply = reply ≡ Ok (bare 413)
IsRefusal Cut reply = reply ≡ Ok (bare 400)
IsRefusal ReadFault reply = reply ≡ Err ReadFault
IsRefusal WriteFault reply = reply ≡ Ok (bare 400)
IsRefusal Method reply = reply ≡ Ok (bare 405)
IsRefusal OutOfMemory reply = reply ≡ Err OutOfMemory

-- a request was not read: the source failed, or there was no memory
abbrev pub NoReply : HttpFault → Type 0
NoReply Head = ⊥
NoReply (Status code) = ⊥
NoReply Compressed = ⊥
NoReply Chunk = ⊥
NoReply OverLimit = ⊥
NoReply Cut = ⊥
NoReply ReadFault = Unit {0}
NoReply WriteFault = ⊥
NoReply Method = ⊥
NoReply OutOfMemory = Unit {0}
