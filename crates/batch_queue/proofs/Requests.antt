-- The length of a batch's request.
use Rattle.std.proofs.Common.{◌≡◌, ◌∙◌, sym, ap, refl, ℕ, ◌+◌, ◌-◌, ◌*◌, ◌<◌, ◌≤◌, ◌^◌, List, [], ◌∷◌, length, map, min, append-nil, arith, length-append}
use Rattle.std.proofs.lemmas.List.Sums.{sum_by-cons}
use Rattle.proto_wire.specs.Record.{bytes_record}
use Rattle.proto_wire.specs.Message.{spelling, spelled_message, spelled_messages, capped}
use Rattle.typed_values.specs.declared.letter.Letter.{Letter}
use Rattle.request_reply.specs.declared.request.ToFunction.TheVariants.{Invocation}
use Rattle.request_reply.specs.declared.request.InvocationBatchRequest.{InvocationBatchRequest}
use Rattle.request_reply.specs.Letters.{letter_record, invocation_of}
use Rattle.request_reply.specs.RequestTables.{batch_invocation_rows, batch_rows}
use Rattle.request_reply.specs.Oneofs.{to_rows, batch_of}
use Rattle.request_reply.specs.Spelling.{to_spelling}
use Rattle.batch_queue.specs.declared.limits.Limits.{Limits}
use Rattle.batch_queue.specs.Batches.{enclosed, records_size, request_size, IsBatch}
use Rattle.batch_queue.specs.Laws.{head_of}
use Rattle.batch_queue.proofs.Sizing.{varint-some}

records_length : (ls : List Letter) → length (spelled_messages (spelling batch_invocation_rows) 3 (map invocation_of ls)) ≡ records_size ls
unfolding spelled_messages letter_record
records_length [] = refl
records_length (l ∷ ls) =
    length-append (letter_record l) (spelled_messages (spelling batch_invocation_rows) 3 (map invocation_of ls))
    ∙ ap (λ n. length (letter_record l) + n) (records_length ls)
    ∙ sym (sum_by-cons (λ (x : Letter). length (letter_record x)) l ls)

batch_length : (request : InvocationBatchRequest) (ls : List Letter) → request.invocations ≡ map invocation_of ls → length (spelling batch_rows request) ≡ length (head_of request) + records_size ls
unfolding batch_rows
batch_length request ls same =
    let s = spelled_messages (spelling batch_invocation_rows) 3 request.invocations in
    let last : length s ≡ records_size ls = ap (λ xs. length (spelled_messages (spelling batch_invocation_rows) 3 xs)) same ∙ records_length ls in
    simp (length-append, append-nil) (omega (arith, last))

enclosed_length : (payload : List ℕ) → length (bytes_record 100 payload) ≡ enclosed (length payload)
enclosed_length payload = simp length-append (omega arith)

pub request_length : (request : InvocationBatchRequest) (ls : List Letter) → request.invocations ≡ map invocation_of ls → length (to_spelling (Invocation request)) ≡ request_size (length (head_of request)) ls
unfolding to_spelling to_rows batch_of spelled_message
request_length request ls same =
    ap length (append-nil (bytes_record 100 (spelling batch_rows request))) ∙ enclosed_length (spelling batch_rows request) ∙ ap enclosed (batch_length request ls same)

-- a head that is longer than is told fits no limit
pub kept_limit : (limits : Limits) (waiting ls : List Letter) (request : InvocationBatchRequest) → limits.max_bytes < 2 ^ 64 → limits.head_bytes ≡ capped (length (head_of request)) → IsBatch limits waiting ls → request.invocations ≡ map invocation_of ls → length (to_spelling (Invocation request)) ≤ limits.max_bytes
kept_limit limits waiting ls request small head batch same =
    let h : ℕ = length (head_of request) in
    let told : limits.head_bytes ≡ min h (2 ^ 64 - 1) = head in
    let bytes = batch.within.bytes in
    let tag = varint-some (8 * 100 + 2) in
    let exact : limits.head_bytes ≡ h = omega (arith, told, bytes, small, tag) in
    let e : length (to_spelling (Invocation request)) ≡ request_size h ls = request_length request ls same in
    let f : request_size limits.head_bytes ls ≡ request_size h ls = ap (λ n. request_size n ls) exact in
    omega (arith, e, f, bytes)
