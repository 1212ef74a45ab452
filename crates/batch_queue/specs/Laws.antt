-- Laws of mail.
use Rattle.std.specs.Prelude.{◌≡◌, ℕ, ◌≤◌, ◌<◌, ◌^◌, if◌then◌else◌, List, [], ◌∷◌, ◌++◌, take, length, map}
use Rattle.proto_wire.specs.Message.{capped, spelling, spelled_message, spelled_messages}
use Rattle.typed_values.specs.declared.address.Address.{Address}
use Rattle.typed_values.specs.declared.letter.Letter.{Letter}
use Rattle.typed_values.specs.Sameness.{same_address}
use Rattle.typed_values.specs.Tables.{address_rows}
use Rattle.request_reply.specs.declared.request.ToFunction.TheVariants.{Invocation}
use Rattle.request_reply.specs.declared.request.InvocationBatchRequest.{InvocationBatchRequest}
use Rattle.request_reply.specs.Letters.{invocation_of}
use Rattle.request_reply.specs.RequestTables.{persisted_value_rows}
use Rattle.request_reply.specs.Spelling.{to_spelling}
use Rattle.batch_queue.specs.declared.limits.Limits.{Limits}
use Rattle.batch_queue.specs.Batches.{request_size, IsBatch}
use Rattle.batch_queue.specs.Post.{Post, no_post, put, opened, taken, returned}

-- ---- the size of a request

-- the records of a request's target and of its state
abbrev pub head_of : InvocationBatchRequest → List ℕ
head_of request = spelled_message (spelling address_rows) 1 request.target ++ spelled_messages (spelling persisted_value_rows) 2 request.state

-- what `open_batch` counts is the length of the canonical request
abbrev pub SizeIsOfRequest : Type 0
SizeIsOfRequest =
    (request : InvocationBatchRequest) (letters : List Letter) → request.invocations ≡ map invocation_of letters →
    length (to_spelling (Invocation request)) ≡ request_size (length (head_of request)) letters

-- the request of a batch has at most the limit's bytes
abbrev pub BatchKeepsLimit : Type 0
BatchKeepsLimit =
    (limits : Limits) (waiting letters : List Letter) (request : InvocationBatchRequest) →
    limits.max_bytes < 2 ^ 64 → limits.head_bytes ≡ capped (length (head_of request)) →
    IsBatch limits waiting letters → request.invocations ≡ map invocation_of letters →
    length (to_spelling (Invocation request)) ≤ limits.max_bytes

-- ---- the order of letters

pub data Call : Type 0 where
  Put : Letter → Call
  Open : Address → ℕ → Call
  Take : Address → Call
  Return : Address → Call

abbrev pub after_call : Call → Post → Post
after_call (Put letter) post = put letter post
after_call (Open address count) post = opened address count post
after_call (Take address) post = taken address post
after_call (Return address) post = returned address post

abbrev pub after_calls : List Call → Post → Post
after_calls [] post = post
after_calls (call ∷ calls) post = after_calls calls (after_call call post)

-- the letters of an address that a call takes for good
abbrev pub left_by : Address → Post → Call → List Letter
left_by address post (Take other) = if same_address other address then take (post.in_flight other) (post.letters other) else []
left_by address post (Put letter) = []
left_by address post (Open other count) = []
left_by address post (Return other) = []

abbrev pub left_in : Address → Post → List Call → List Letter
left_in address post [] = []
left_in address post (call ∷ calls) = left_by address post call ++ left_in address (after_call call post) calls

-- the letters that calls put for an address
abbrev pub put_by : Address → Call → List Letter
put_by address (Put letter) = if same_address letter.target address then letter ∷ [] else []
put_by address (Open other count) = []
put_by address (Take other) = []
put_by address (Return other) = []

abbrev pub put_in : Address → List Call → List Letter
put_in address [] = []
put_in address (call ∷ calls) = put_by address call ++ put_in address calls

-- what was put for an address is, in order, what batches took, and then what waits
abbrev pub LettersLeaveInOrder : Type 0
LettersLeaveInOrder =
    (calls : List Call) (address : Address) →
    left_in address no_post calls ++ (after_calls calls no_post).letters address ≡ put_in address calls
