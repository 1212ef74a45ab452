-- Batches: how long their requests are, and which letters go into one.
use Rattle.std.specs.Prelude.{◌≡◌, ℕ, ◌+◌, ◌*◌, ◌<◌, ◌≤◌, List, length, take, sum_by}
use Rattle.proto_wire.specs.Varint.{varint}
use Rattle.proto_wire.specs.Message.{capped}
use Rattle.typed_values.specs.declared.letter.Letter.{Letter}
use Rattle.request_reply.specs.Letters.{letter_record}
use Rattle.batch_queue.specs.declared.limits.Limits.{Limits}
use Rattle.batch_queue.specs.declared.fault.BatchFault.{BatchFault}
use Rattle.batch_queue.specs.declared.fault.BatchFault.TheVariants.{TooLarge, OutOfMemory}

-- the length of a request's message whose records have so many bytes: the tag of field 100, their length, the records
abbrev pub enclosed : ℕ → ℕ
enclosed bytes = length (varint (8 * 100 + 2)) + length (varint bytes) + bytes

-- the bytes of letters' records
abbrev pub records_size : List Letter → ℕ
records_size letters = sum_by (λ letter. length (letter_record letter)) letters

-- the length of the request of letters, where its target and its state have `head` bytes
abbrev pub request_size : ℕ → List Letter → ℕ
request_size head letters = enclosed (head + records_size letters)

pub record IsWithin (limits : Limits) (letters : List Letter) : Type 0 where
  pub count : length letters ≤ limits.max_letters
  pub bytes : request_size limits.head_bytes letters ≤ limits.max_bytes

-- the longest front of the letters within both limits
pub record IsBatch (limits : Limits) (letters batch : List Letter) : Type 0 where
  pub some : 0 < length batch
  pub front : take (length batch) letters ≡ batch
  pub within : IsWithin limits batch
  pub longest : (more : ℕ) → length batch < more → more ≤ length letters → ¬ (IsWithin limits (take more letters))

-- why there is no batch of letters: the request with the first letter alone passes the limit
abbrev pub IsFaultOf : Limits → List Letter → BatchFault → Type 0
IsFaultOf limits letters (TooLarge size limit) =
    let first = request_size limits.head_bytes (take 1 letters) in
    (limits.max_bytes < first) × (size ≡ capped first) × (limit ≡ limits.max_bytes)
IsFaultOf limits letters OutOfMemory = Unit {0}
