-- What an accepted answer does.
use Rattle.std.specs.Prelude.{ℕ, ◌+◌, ◌^◌, ◌-◌, min, false, List, [], ◌∷◌, map, Option, Some, None, if◌then◌else◌}
use Rattle.std.specs.List.{flat_map}
use Rattle.typed_values.specs.declared.name.TypeName.{TypeName}
use Rattle.typed_values.specs.declared.address.Address.{Address}
use Rattle.typed_values.specs.declared.value.TypedValue.{TypedValue}
use Rattle.typed_values.specs.declared.letter.Sender.TheVariants.{Function}
use Rattle.typed_values.specs.declared.letter.Letter.{Letter}
use Rattle.typed_values.specs.declared.record.Delay.{Delay}
use Rattle.typed_values.specs.declared.record.EgressRecord.{EgressRecord}
use Rattle.request_reply.specs.declared.answer.InvocationResponse.{InvocationResponse}
use Rattle.request_reply.specs.declared.answer.PersistedValueMutation.{PersistedValueMutation}
use Rattle.request_reply.specs.declared.answer.OutgoingInvocation.{OutgoingInvocation}
use Rattle.request_reply.specs.declared.answer.DelayedInvocation.{DelayedInvocation}
use Rattle.request_reply.specs.declared.answer.EgressMessage.{EgressMessage}
use Rattle.request_reply.specs.Flaws.{sets, natural}
use Rattle.invocation.specs.declared.effects.Effects.{Effects}
use Rattle.invocation.specs.declared.effects.Change.{Change}
use Rattle.invocation.specs.declared.effects.Change.TheVariants.{Set, Clear}
use Rattle.invocation.specs.declared.effects.DelayChange.{DelayChange}
use Rattle.invocation.specs.declared.effects.DelayChange.TheVariants.{Add, Cancel}

-- what stands for an argument that is absent
abbrev pub argument_of : Option TypedValue → TypedValue
argument_of None = record { typename = []; has_value = false; value = [] }
argument_of (Some argument) = argument

-- a cell is set only to a value that is there
abbrev pub set_to : List ℕ → Option TypedValue → Change
set_to name None = Clear name
set_to name (Some value) = if value.has_value then Set name value else Clear name

abbrev pub change_of : PersistedValueMutation → Change
change_of mutation = if sets mutation then set_to mutation.state_name mutation.state_value else Clear mutation.state_name

-- the messages of an answer as letters; one without a target is none
abbrev pub letters_to : Address → Option Address → TypedValue → List Letter
letters_to address None argument = []
letters_to address (Some target) argument = record { sender = Function address; target = target; argument = argument } ∷ []

abbrev pub letters_from : Address → List OutgoingInvocation → List Letter
letters_from address messages = flat_map (λ message. letters_to address message.target (argument_of message.argument)) messages

-- a moment so much later, at most the last one that there is
abbrev pub later : ℕ → ℕ → ℕ
later moment millis = min (moment + millis) (2 ^ 64 - 1)

-- a letter that waits for its moment; one without a target is none
abbrev pub delays_to : Address → ℕ → DelayedInvocation → Option Address → List DelayChange
delays_to address moment delayed None = []
delays_to address moment delayed (Some target) = Add (record {
  sender = address;
  due = later moment (natural delayed.delay_in_ms);
  target = target;
  token = delayed.cancellation_token;
  argument = argument_of delayed.argument;
}) ∷ []

abbrev pub delays_of : Address → ℕ → DelayedInvocation → List DelayChange
delays_of address moment delayed =
    if delayed.is_cancellation_request then Cancel delayed.cancellation_token ∷ [] else delays_to address moment delayed delayed.target

abbrev pub egress_name : EgressMessage → TypeName
egress_name message = record { namespace = message.egress_namespace; name = message.egress_type }

abbrev pub egress_record : Address → EgressMessage → EgressRecord
egress_record address message = record { sender = address; egress = egress_name message; argument = argument_of message.argument }

-- what a result of an address does, whose batch has that moment
unfoldable pub effects_of : Address → ℕ → InvocationResponse → Effects
effects_of address moment response = record {
  mutations = map change_of response.state_mutations;
  letters = letters_from address response.outgoing_messages;
  delays = flat_map (delays_of address moment) response.delayed_invocations;
  egress = map (egress_record address) response.outgoing_egresses;
}
