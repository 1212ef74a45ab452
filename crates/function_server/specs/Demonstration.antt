-- How the demonstration functions are called, and the parts of their answers.
use Rattle.std.specs.Prelude.{ℕ, pos, List, [], ◌∷◌, Option, Some, codes, find}
use Rattle.std.specs.Option.{option_and_then}
use Rattle.typed_values.specs.declared.name.TypeName.{TypeName}
use Rattle.typed_values.specs.declared.address.Address.{Address}
use Rattle.typed_values.specs.declared.value.TypedValue.{TypedValue}
use Rattle.typed_values.specs.declared.cell.CellSpec.{CellSpec}
use Rattle.typed_values.specs.declared.cell.Expiry.TheVariants.{Never}
use Rattle.typed_values.specs.Sameness.{same_bytes}
use Rattle.request_reply.specs.declared.request.PersistedValue.{PersistedValue}
use Rattle.request_reply.specs.declared.answer.PersistedValueMutation.{PersistedValueMutation}
use Rattle.request_reply.specs.declared.answer.OutgoingInvocation.{OutgoingInvocation}
use Rattle.request_reply.specs.declared.answer.EgressMessage.{EgressMessage}

abbrev pub name_of : List ℕ → TypeName
name_of name = record { namespace = codes "com.example"; name = name }

abbrev pub address_of : List ℕ → List ℕ → Address
address_of name id = record { kind = name_of name; id = id }

-- one cell that never expires
abbrev pub one_cell : List ℕ → List ℕ → List CellSpec
one_cell name typename = record { name = name; typename = typename; mode = Never; millis = 0 } ∷ []

-- the value that a request ships of a cell
abbrev pub shipped : List PersistedValue → List ℕ → Option TypedValue
shipped state name = option_and_then (λ cell. cell.state_value) (find (λ cell. same_bytes cell.state_name name) state)

-- the cell is set to a value
abbrev pub set_to : List ℕ → TypedValue → PersistedValueMutation
set_to name value = record { mutation_type = pos 1; state_name = name; state_value = Some value }

abbrev pub message_to : Address → TypedValue → OutgoingInvocation
message_to target argument = record { target = Some target; argument = Some argument }

abbrev pub egress_to : List ℕ → TypedValue → EgressMessage
egress_to name argument = record { egress_namespace = codes "com.example"; egress_type = name; argument = Some argument }
