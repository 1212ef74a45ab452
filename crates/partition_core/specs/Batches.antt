-- Which letters go into a batch, and its request.
use Rattle.std.specs.Prelude.{◌≡◌, ◌<◌, false, map, ℕ, nat_le, List, [], ◌∷◌, ◌++◌, length, take, Bool, ◌&&◌, if◌then◌else◌, Option, Some, None}
use Rattle.typed_values.specs.declared.address.Address.{Address}
use Rattle.typed_values.specs.declared.letter.Sender.{Sender}
use Rattle.typed_values.specs.declared.letter.Letter.{Letter}
use Rattle.typed_values.specs.declared.cells.Cell.{Cell}
use Rattle.request_reply.specs.Spelling.{to_spelling}
use Rattle.batch_queue.specs.declared.limits.Limits.{Limits}
use Rattle.batch_queue.specs.Batches.{request_size}
use Rattle.invocation.specs.Requests.{request_of, head_size}
use Rattle.proto_wire.specs.Message.{capped}
use Rattle.batch_queue.specs.declared.fault.BatchFault.{BatchFault}
use Rattle.batch_queue.specs.declared.fault.BatchFault.TheVariants.{TooLarge, OutOfMemory}
use Rattle.batch_queue.specs.Post.{opened, is_ready}
use Rattle.partition_core.specs.declared.opened.Opened.{Opened}
use Rattle.partition_core.specs.Work.{Work}
use Rattle.partition_core.specs.declared.bounds.Bounds.{Bounds}

-- so many letters, in a request whose target and state have `head` bytes, keep the bounds
abbrev pub keeps : Bounds → ℕ → List Letter → Bool
keeps bounds head letters = nat_le (length letters) bounds.max_letters && nat_le (request_size head letters) bounds.max_bytes

-- the limits of a batch in a request whose target and state have `head` bytes
abbrev pub limits_of : Bounds → ℕ → Limits
limits_of bounds head = record { max_letters = bounds.max_letters; max_bytes = bounds.max_bytes; head_bytes = head }

-- the longest front of letters that keeps the bounds, behind those that do
abbrev pub fitting_behind : Bounds → ℕ → List Letter → List Letter → List Letter
fitting_behind bounds head front [] = front
fitting_behind bounds head front (letter ∷ letters) =
    if keeps bounds head (front ++ letter ∷ []) then fitting_behind bounds head (front ++ letter ∷ []) letters else front

unfoldable pub fitting : Bounds → ℕ → List Letter → List Letter
fitting bounds head letters = fitting_behind bounds head [] letters

-- the bytes of the request to an address at a moment
abbrev pub request_bytes : Address → List Cell → ℕ → List Letter → List ℕ
request_bytes address cells moment letters = to_spelling (request_of address cells moment letters)

abbrev pub sender_of : Letter → Sender
sender_of letter = letter.sender

-- ---- opening

-- why there is no batch of letters: the request with the first alone passes the bound
abbrev pub IsTooLarge : Bounds → ℕ → Address → Work → BatchFault → Type 0
IsTooLarge bounds moment address work (TooLarge size limit) =
    let first = request_size (head_size address (work.cells address) moment) (take 1 (work.post.letters address)) in
    (bounds.max_bytes < first) × (size ≡ capped first) × (limit ≡ bounds.max_bytes)
IsTooLarge bounds moment address work OutOfMemory = Unit {0}

-- the letters that go into the batch of an address
abbrev pub batch_at : Bounds → ℕ → Address → Work → List Letter
batch_at bounds moment address work = fitting bounds (head_size address (work.cells address) moment) (work.post.letters address)

abbrev pub opened_at : Address → List Letter → Work → Work
opened_at address letters work = record work { post = opened address (length letters) work.post }

abbrev pub Opens : Bounds → ℕ → Address → Work → Option Opened → Work → Type 0
Opens bounds moment address old None new = (is_ready old.post address ≡ false) × (new ≡ old)
Opens bounds moment address old (Some opening) new =
    let letters = batch_at bounds moment address old in
    (0 < length letters) × (opening.picks ≡ map sender_of letters)
    × (opening.request ≡ request_bytes address (old.cells address) moment letters) × (new ≡ opened_at address letters old)
