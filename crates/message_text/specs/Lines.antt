-- The lines in which a message is printed for people: its parts in the message's order, one blank between the parts of a line, LF at its end.
use Rattle.std.specs.Prelude.{ℕ, codes, List, [], ◌∷◌, ◌++◌, Option, None, Some, if◌then◌else◌}
use Rattle.std.specs.List.{flat_map}
use Rattle.std.specs.Fmt.{decimal, signed_decimal}
use Rattle.proto_wire.specs.declared.fault.WireKind.{WireKind}
use Rattle.proto_wire.specs.declared.fault.WireKind.TheVariants.{Truncated, LongVarint, FieldZero, TagTooLarge, WireType, NotUtf8, NoMember, OverLimit}
use Rattle.proto_wire.specs.declared.fault.WireFault.{WireFault}
use Rattle.typed_values.specs.declared.address.Address.{Address}
use Rattle.typed_values.specs.declared.value.TypedValue.{TypedValue}
use Rattle.request_reply.specs.declared.request.ToFunction.{ToFunction}
use Rattle.request_reply.specs.declared.request.ToFunction.TheVariants.{Invocation}
use Rattle.request_reply.specs.declared.request.PersistedValue.{PersistedValue}
use Rattle.request_reply.specs.declared.request.BatchInvocation.{BatchInvocation}
use Rattle.request_reply.specs.declared.request.InvocationBatchRequest.{InvocationBatchRequest}
use Rattle.request_reply.specs.declared.answer.FromFunction.{FromFunction}
use Rattle.request_reply.specs.declared.answer.FromFunction.TheVariants.{Result, Incomplete}
use Rattle.request_reply.specs.declared.answer.PersistedValueMutation.{PersistedValueMutation}
use Rattle.request_reply.specs.declared.answer.OutgoingInvocation.{OutgoingInvocation}
use Rattle.request_reply.specs.declared.answer.DelayedInvocation.{DelayedInvocation}
use Rattle.request_reply.specs.declared.answer.EgressMessage.{EgressMessage}
use Rattle.request_reply.specs.declared.answer.InvocationResponse.{InvocationResponse}
use Rattle.request_reply.specs.declared.answer.ExpirationSpec.{ExpirationSpec}
use Rattle.request_reply.specs.declared.answer.PersistedValueSpec.{PersistedValueSpec}
use Rattle.typed_values.specs.Escape.{escaped, name_text, address_text, value_text}

-- ---- the parts of lines

-- `TYPENAME:HEX`, `TYPENAME:none` of a value that is none, `-` where there is no value
abbrev pub value_part : Option TypedValue → List ℕ
value_part None = codes "-"
value_part (Some value) = escaped value.typename ++ 58 ∷ value_text value

-- `namespace/name/id`, or `-` where there is no address
abbrev pub address_part : Option Address → List ℕ
address_part None = codes "-"
address_part (Some address) = address_text address

-- an empty token is `-`
abbrev pub token_part : List ℕ → List ℕ
token_part [] = codes "-"
token_part (byte ∷ bytes) = escaped (byte ∷ bytes)

-- the mode and the milliseconds of an expiry, both 0 where there is none
abbrev pub expiry_part : Option ExpirationSpec → List ℕ
expiry_part None = codes "0 0"
expiry_part (Some expiry) = signed_decimal expiry.mode ++ 32 ∷ signed_decimal expiry.expire_after_millis

-- ---- requests

-- `invocation TARGET`
abbrev pub target_line : Option Address → List ℕ
target_line target = codes "invocation " ++ (address_part target ++ 10 ∷ [])

-- `state NAME VALUE`
abbrev pub state_line : PersistedValue → List ℕ
state_line state = codes "state " ++ (escaped state.state_name ++ 32 ∷ (value_part state.state_value ++ 10 ∷ []))

-- `letter CALLER VALUE`
abbrev pub letter_line : BatchInvocation → List ℕ
letter_line letter = codes "letter " ++ (address_part letter.caller ++ 32 ∷ (value_part letter.argument ++ 10 ∷ []))

abbrev pub state_lines : List PersistedValue → List ℕ
state_lines states = flat_map state_line states

abbrev pub letter_lines : List BatchInvocation → List ℕ
letter_lines letters = flat_map letter_line letters

-- the target, then the states, then the letters
abbrev pub batch_lines : InvocationBatchRequest → List ℕ
batch_lines batch = target_line batch.target ++ (state_lines batch.state ++ letter_lines batch.invocations)

unfoldable pub request_lines : ToFunction → List ℕ
request_lines (Invocation batch) = batch_lines batch

-- ---- answers

-- `mutation TYPE NAME VALUE`
abbrev pub mutation_line : PersistedValueMutation → List ℕ
mutation_line mutation =
    codes "mutation " ++ (signed_decimal mutation.mutation_type ++ 32 ∷ (escaped mutation.state_name ++ 32 ∷ (value_part mutation.state_value ++ 10 ∷ [])))

-- `message TARGET VALUE`
abbrev pub message_line : OutgoingInvocation → List ℕ
message_line message = codes "message " ++ (address_part message.target ++ 32 ∷ (value_part message.argument ++ 10 ∷ []))

-- `cancel TOKEN`
abbrev pub cancel_line : DelayedInvocation → List ℕ
cancel_line delayed = codes "cancel " ++ (token_part delayed.cancellation_token ++ 10 ∷ [])

-- `TARGET TOKEN VALUE`
abbrev pub delayed_call_part : DelayedInvocation → List ℕ
delayed_call_part delayed = address_part delayed.target ++ 32 ∷ (token_part delayed.cancellation_token ++ 32 ∷ value_part delayed.argument)

-- `delay MS TARGET TOKEN VALUE`
abbrev pub delay_line : DelayedInvocation → List ℕ
delay_line delayed = codes "delay " ++ (signed_decimal delayed.delay_in_ms ++ 32 ∷ (delayed_call_part delayed ++ 10 ∷ []))

abbrev pub delayed_line : DelayedInvocation → List ℕ
delayed_line delayed = if delayed.is_cancellation_request then cancel_line delayed else delay_line delayed

-- `NAMESPACE/TYPE`
abbrev pub egress_name_part : EgressMessage → List ℕ
egress_name_part message = name_text (record { namespace = message.egress_namespace; name = message.egress_type })

-- `egress NAMESPACE/TYPE VALUE`
abbrev pub egress_message_line : EgressMessage → List ℕ
egress_message_line message = codes "egress " ++ (egress_name_part message ++ 32 ∷ (value_part message.argument ++ 10 ∷ []))

-- `missing NAME TYPENAME MODE MS`
abbrev pub missing_line : PersistedValueSpec → List ℕ
missing_line missing =
    codes "missing " ++ (escaped missing.state_name ++ 32 ∷ (escaped missing.type_typename ++ 32 ∷ (expiry_part missing.expiration_spec ++ 10 ∷ [])))

abbrev pub mutation_lines : List PersistedValueMutation → List ℕ
mutation_lines mutations = flat_map mutation_line mutations

abbrev pub message_lines : List OutgoingInvocation → List ℕ
message_lines messages = flat_map message_line messages

abbrev pub delayed_lines : List DelayedInvocation → List ℕ
delayed_lines delayed = flat_map delayed_line delayed

abbrev pub egress_lines : List EgressMessage → List ℕ
egress_lines messages = flat_map egress_message_line messages

abbrev pub missing_lines : List PersistedValueSpec → List ℕ
missing_lines values = flat_map missing_line values

-- `result`, then the mutations, the messages, the delayed messages and the egress
abbrev pub result_lines : InvocationResponse → List ℕ
result_lines response =
    codes "result" ++ 10 ∷ (mutation_lines response.state_mutations ++ (message_lines response.outgoing_messages
    ++ (delayed_lines response.delayed_invocations ++ egress_lines response.outgoing_egresses)))

-- the lines of a result; or `incomplete`, then the missing values
unfoldable pub answer_lines : FromFunction → List ℕ
answer_lines (Result response) = result_lines response
answer_lines (Incomplete context) = codes "incomplete" ++ 10 ∷ missing_lines context.missing_values

-- ---- faults

abbrev pub kind_name : WireKind → List ℕ
kind_name Truncated = codes "Truncated"
kind_name LongVarint = codes "LongVarint"
kind_name FieldZero = codes "FieldZero"
kind_name TagTooLarge = codes "TagTooLarge"
kind_name WireType = codes "WireType"
kind_name NotUtf8 = codes "NotUtf8"
kind_name NoMember = codes "NoMember"
kind_name OverLimit = codes "OverLimit"

-- `fault NAME at PLACE`
unfoldable pub fault_line : WireFault → List ℕ
fault_line fault = codes "fault " ++ (kind_name fault.kind ++ (codes " at " ++ (decimal fault.at ++ 10 ∷ [])))
