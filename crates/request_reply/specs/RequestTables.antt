-- The fields of a request's messages.
use Rattle.std.specs.Prelude.{List, [], ◌∷◌, None}
use Rattle.proto_wire.specs.Message.{Row, texts, messages, lists}
use Rattle.typed_values.specs.Tables.{empty_address, address_rows, empty_value, value_rows}
use Rattle.request_reply.specs.declared.request.PersistedValue.{PersistedValue}
use Rattle.request_reply.specs.declared.request.BatchInvocation.{BatchInvocation}
use Rattle.request_reply.specs.declared.request.InvocationBatchRequest.{InvocationBatchRequest}

unfoldable pub empty_persisted_value : PersistedValue
empty_persisted_value = record { state_name = []; state_value = None }

unfoldable pub persisted_value_rows : List (Row PersistedValue)
persisted_value_rows =
    texts 1 (λ it. it.state_name) (λ it new. record it { state_name = new })
    ∷ messages empty_value value_rows 2 (λ it. it.state_value) (λ it new. record it { state_value = new })
    ∷ []

unfoldable pub empty_batch_invocation : BatchInvocation
empty_batch_invocation = record { caller = None; argument = None }

unfoldable pub batch_invocation_rows : List (Row BatchInvocation)
batch_invocation_rows =
    messages empty_address address_rows 1 (λ it. it.caller) (λ it new. record it { caller = new })
    ∷ messages empty_value value_rows 2 (λ it. it.argument) (λ it new. record it { argument = new })
    ∷ []

unfoldable pub empty_batch : InvocationBatchRequest
empty_batch = record { target = None; state = []; invocations = [] }

unfoldable pub batch_rows : List (Row InvocationBatchRequest)
batch_rows =
    messages empty_address address_rows 1 (λ it. it.target) (λ it new. record it { target = new })
    ∷ lists empty_persisted_value persisted_value_rows 2 (λ it. it.state) (λ it new. record it { state = new })
    ∷ lists empty_batch_invocation batch_invocation_rows 3 (λ it. it.invocations) (λ it new. record it { invocations = new })
    ∷ []
