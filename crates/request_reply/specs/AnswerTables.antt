-- The fields of an answer's messages.
use Rattle.std.specs.Prelude.{false, pos, List, [], ◌∷◌, None}
use Rattle.proto_wire.specs.Message.{Row, texts, bools, enums, longs, messages, lists}
use Rattle.typed_values.specs.Tables.{empty_address, address_rows, empty_value, value_rows}
use Rattle.request_reply.specs.declared.answer.PersistedValueMutation.{PersistedValueMutation}
use Rattle.request_reply.specs.declared.answer.OutgoingInvocation.{OutgoingInvocation}
use Rattle.request_reply.specs.declared.answer.DelayedInvocation.{DelayedInvocation}
use Rattle.request_reply.specs.declared.answer.EgressMessage.{EgressMessage}
use Rattle.request_reply.specs.declared.answer.InvocationResponse.{InvocationResponse}
use Rattle.request_reply.specs.declared.answer.ExpirationSpec.{ExpirationSpec}
use Rattle.request_reply.specs.declared.answer.PersistedValueSpec.{PersistedValueSpec}
use Rattle.request_reply.specs.declared.answer.IncompleteInvocationContext.{IncompleteInvocationContext}

unfoldable pub empty_mutation : PersistedValueMutation
empty_mutation = record { mutation_type = pos 0; state_name = []; state_value = None }

unfoldable pub mutation_rows : List (Row PersistedValueMutation)
mutation_rows =
    enums 1 (λ it. it.mutation_type) (λ it new. record it { mutation_type = new })
    ∷ texts 2 (λ it. it.state_name) (λ it new. record it { state_name = new })
    ∷ messages empty_value value_rows 3 (λ it. it.state_value) (λ it new. record it { state_value = new })
    ∷ []

unfoldable pub empty_outgoing : OutgoingInvocation
empty_outgoing = record { target = None; argument = None }

unfoldable pub outgoing_rows : List (Row OutgoingInvocation)
outgoing_rows =
    messages empty_address address_rows 1 (λ it. it.target) (λ it new. record it { target = new })
    ∷ messages empty_value value_rows 2 (λ it. it.argument) (λ it new. record it { argument = new })
    ∷ []

unfoldable pub empty_delayed : DelayedInvocation
empty_delayed = record { delay_in_ms = pos 0; target = None; argument = None; is_cancellation_request = false; cancellation_token = [] }

unfoldable pub delayed_rows : List (Row DelayedInvocation)
delayed_rows =
    longs 1 (λ it. it.delay_in_ms) (λ it new. record it { delay_in_ms = new })
    ∷ messages empty_address address_rows 2 (λ it. it.target) (λ it new. record it { target = new })
    ∷ messages empty_value value_rows 3 (λ it. it.argument) (λ it new. record it { argument = new })
    ∷ bools 10 (λ it. it.is_cancellation_request) (λ it new. record it { is_cancellation_request = new })
    ∷ texts 11 (λ it. it.cancellation_token) (λ it new. record it { cancellation_token = new })
    ∷ []

unfoldable pub empty_egress_message : EgressMessage
empty_egress_message = record { egress_namespace = []; egress_type = []; argument = None }

unfoldable pub egress_message_rows : List (Row EgressMessage)
egress_message_rows =
    texts 1 (λ it. it.egress_namespace) (λ it new. record it { egress_namespace = new })
    ∷ texts 2 (λ it. it.egress_type) (λ it new. record it { egress_type = new })
    ∷ messages empty_value value_rows 3 (λ it. it.argument) (λ it new. record it { argument = new })
    ∷ []

unfoldable pub empty_response : InvocationResponse
empty_response = record { state_mutations = []; outgoing_messages = []; delayed_invocations = []; outgoing_egresses = [] }

unfoldable pub response_rows : List (Row InvocationResponse)
response_rows =
    lists empty_mutation mutation_rows 1 (λ it. it.state_mutations) (λ it new. record it { state_mutations = new })
    ∷ lists empty_outgoing outgoing_rows 2 (λ it. it.outgoing_messages) (λ it new. record it { outgoing_messages = new })
    ∷ lists empty_delayed delayed_rows 3 (λ it. it.delayed_invocations) (λ it new. record it { delayed_invocations = new })
    ∷ lists empty_egress_message egress_message_rows 4 (λ it. it.outgoing_egresses) (λ it new. record it { outgoing_egresses = new })
    ∷ []

unfoldable pub empty_expiration : ExpirationSpec
empty_expiration = record { mode = pos 0; expire_after_millis = pos 0 }

unfoldable pub expiration_rows : List (Row ExpirationSpec)
expiration_rows =
    enums 1 (λ it. it.mode) (λ it new. record it { mode = new })
    ∷ longs 2 (λ it. it.expire_after_millis) (λ it new. record it { expire_after_millis = new })
    ∷ []

unfoldable pub empty_value_spec : PersistedValueSpec
empty_value_spec = record { state_name = []; expiration_spec = None; type_typename = [] }

unfoldable pub value_spec_rows : List (Row PersistedValueSpec)
value_spec_rows =
    texts 1 (λ it. it.state_name) (λ it new. record it { state_name = new })
    ∷ messages empty_expiration expiration_rows 2 (λ it. it.expiration_spec) (λ it new. record it { expiration_spec = new })
    ∷ texts 3 (λ it. it.type_typename) (λ it new. record it { type_typename = new })
    ∷ []

unfoldable pub empty_context : IncompleteInvocationContext
empty_context = record { missing_values = [] }

unfoldable pub context_rows : List (Row IncompleteInvocationContext)
context_rows =
    lists empty_value_spec value_spec_rows 1 (λ it. it.missing_values) (λ it new. record it { missing_values = new })
    ∷ []
