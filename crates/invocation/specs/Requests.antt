-- The request of a batch.
use Rattle.std.specs.Prelude.{ℕ, List, [], length, map, Some}
use Rattle.typed_values.specs.declared.address.Address.{Address}
use Rattle.typed_values.specs.declared.letter.Letter.{Letter}
use Rattle.typed_values.specs.declared.cells.Cell.{Cell}
use Rattle.typed_values.specs.Cells.{value_at}
use Rattle.request_reply.specs.declared.request.ToFunction.{ToFunction}
use Rattle.request_reply.specs.declared.request.ToFunction.TheVariants.{Invocation}
use Rattle.request_reply.specs.declared.request.InvocationBatchRequest.{InvocationBatchRequest}
use Rattle.request_reply.specs.declared.request.PersistedValue.{PersistedValue}
use Rattle.request_reply.specs.Letters.{invocation_of}
use Rattle.batch_queue.specs.Laws.{head_of}

-- a cell as a request at a moment carries it
abbrev pub shipped : ℕ → Cell → PersistedValue
shipped moment cell = record { state_name = cell.spec.name; state_value = value_at moment cell }

-- letters for an address, with all its cells as they are at a moment
abbrev pub batch_of : Address → List Cell → ℕ → List Letter → InvocationBatchRequest
batch_of address cells moment letters =
    record { target = Some address; state = map (shipped moment) cells; invocations = map invocation_of letters }

unfoldable pub request_of : Address → List Cell → ℕ → List Letter → ToFunction
request_of address cells moment letters = Invocation (batch_of address cells moment letters)

-- the bytes of the records of the target and of the state
unfoldable pub head_size : Address → List Cell → ℕ → ℕ
head_size address cells moment = length (head_of (batch_of address cells moment []))
