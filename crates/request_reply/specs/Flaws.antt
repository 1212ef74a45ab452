-- The first flaw of an answer, for endpoints, egresses and the cells of the address that answers. An answer is valid where it has none.
use Rattle.std.specs.Prelude.{ℕ, ◌+◌, ℤ, pos, negsuc, Bool, true, false, ◌&&◌, ◌||◌, nat_lt, int_lt, int_le, List, [], ◌∷◌, length}
use Rattle.std.specs.Prelude.{Option, Some, None, is_some, if◌then◌else◌}
use Rattle.std.specs.Option.{option_map_or}
use Rattle.std.specs.List.{list_any}
use Rattle.proto_wire.specs.declared.fault.WireFault.{WireFault}
use Rattle.proto_wire.specs.declared.fault.WireKind.TheVariants.{OverLimit}
use Rattle.typed_values.specs.declared.name.TypeName.{TypeName}
use Rattle.typed_values.specs.declared.pattern.TypePattern.{TypePattern}
use Rattle.typed_values.specs.declared.address.Address.{Address}
use Rattle.typed_values.specs.declared.value.TypedValue.{TypedValue}
use Rattle.typed_values.specs.declared.cell.CellSpec.{CellSpec}
use Rattle.typed_values.specs.declared.cell.Expiry.{Expiry}
use Rattle.typed_values.specs.declared.cell.Expiry.TheVariants.{Never, AfterWrite, AfterInvoke}
use Rattle.typed_values.specs.declared.cells.Cell.{Cell}
use Rattle.typed_values.specs.Cells.{found, registered}
use Rattle.typed_values.specs.Sameness.{same_bytes}
use Rattle.request_reply.specs.declared.answer.FromFunction.{FromFunction}
use Rattle.request_reply.specs.declared.answer.FromFunction.TheVariants.{Result, Incomplete}
use Rattle.request_reply.specs.declared.answer.InvocationResponse.{InvocationResponse}
use Rattle.request_reply.specs.declared.answer.PersistedValueMutation.{PersistedValueMutation}
use Rattle.request_reply.specs.declared.answer.OutgoingInvocation.{OutgoingInvocation}
use Rattle.request_reply.specs.declared.answer.DelayedInvocation.{DelayedInvocation}
use Rattle.request_reply.specs.declared.answer.EgressMessage.{EgressMessage}
use Rattle.request_reply.specs.declared.answer.PersistedValueSpec.{PersistedValueSpec}
use Rattle.request_reply.specs.declared.answer.ExpirationSpec.{ExpirationSpec}
use Rattle.request_reply.specs.declared.flaw.Flaw.{Flaw}
use Rattle.request_reply.specs.declared.flaw.FlawKind.{FlawKind}
use Rattle.request_reply.specs.declared.flaw.FlawKind.TheVariants.{Wire, BadMutation, UnknownName, TypeDiffers, TooLarge, NoEndpoint, NegativeDelay}
use Rattle.request_reply.specs.declared.flaw.FlawKind.TheVariants.{EmptyToken, UnknownEgress, BadExpiry, TooMany, NoNewName}

-- what an answer is judged by: the patterns of the job's endpoints, the names of its egresses, and the cells of the address that answers
pub record Setting : Type 0 where
  pub endpoints : List TypePattern
  pub egresses : List TypeName
  pub cells : List Cell

-- ---- what the setting has

-- without a name a pattern is for all names of its namespace
abbrev pub is_pattern_of : TypeName → TypePattern → Bool
is_pattern_of kind pattern = option_map_or (same_bytes kind.name) pattern.name true && same_bytes kind.namespace pattern.namespace

abbrev pub has_endpoint : List TypePattern → TypeName → Bool
has_endpoint endpoints kind = list_any (is_pattern_of kind) endpoints

abbrev pub has_egress : List TypeName → List ℕ → List ℕ → Bool
has_egress egresses namespace name = list_any (λ (egress : TypeName). same_bytes egress.namespace namespace && same_bytes egress.name name) egresses

-- the type of a cell's values, where the cell is there
abbrev pub type_in : Option Cell → Option (List ℕ)
type_in None = None
type_in (Some cell) = Some cell.spec.typename

-- the type under which a name is registered
abbrev pub type_of : List ℕ → List Cell → Option (List ℕ)
type_of name cells = type_in (found name cells)

-- ---- the flaw of one element

-- a value of another type than its cell's, or one of more than 1,048,576 bytes
abbrev pub value_flaw : List ℕ → TypedValue → Option FlawKind
value_flaw typename value =
    if same_bytes value.typename typename then (if nat_lt 1048576 (length value.value) then Some TooLarge else None) else Some TypeDiffers

-- only a value that is there can be at fault
abbrev pub set_flaw : List ℕ → Option TypedValue → Option FlawKind
set_flaw typename None = None
set_flaw typename (Some value) = if value.has_value then value_flaw typename value else None

-- 0 deletes, 1 sets
abbrev pub sets : PersistedValueMutation → Bool
sets mutation = int_lt (pos 0) mutation.mutation_type

abbrev pub known_flaw : Option (List ℕ) → PersistedValueMutation → Option FlawKind
known_flaw None mutation = Some UnknownName
known_flaw (Some typename) mutation = if sets mutation then set_flaw typename mutation.state_value else None

abbrev pub is_mutation : ℤ → Bool
is_mutation kind = int_le (pos 0) kind && int_le kind (pos 1)

abbrev pub mutation_flaw : Setting → PersistedValueMutation → Option FlawKind
mutation_flaw setting mutation =
    if is_mutation mutation.mutation_type then known_flaw (type_of mutation.state_name setting.cells) mutation else Some BadMutation

abbrev pub target_flaw : List TypePattern → Option Address → Option FlawKind
target_flaw endpoints None = Some NoEndpoint
target_flaw endpoints (Some target) = if has_endpoint endpoints target.kind then None else Some NoEndpoint

abbrev pub message_flaw : Setting → OutgoingInvocation → Option FlawKind
message_flaw setting message = target_flaw setting.endpoints message.target

abbrev pub token_flaw : List ℕ → Option FlawKind
token_flaw [] = Some EmptyToken
token_flaw (byte ∷ token) = None

-- a cancellation names a token; its delay and its target are not looked at
abbrev pub delayed_flaw : Setting → DelayedInvocation → Option FlawKind
delayed_flaw setting delayed =
    if delayed.is_cancellation_request then token_flaw delayed.cancellation_token
    else (if int_lt delayed.delay_in_ms (pos 0) then Some NegativeDelay else target_flaw setting.endpoints delayed.target)

abbrev pub egress_flaw : Setting → EgressMessage → Option FlawKind
egress_flaw setting message = if has_egress setting.egresses message.egress_namespace message.egress_type then None else Some UnknownEgress

-- ---- missing values

-- mode 0 is no expiry, 1 counts from the last write, 2 from the last write or invocation
abbrev pub is_mode : ℤ → Bool
is_mode mode = int_le (pos 0) mode && int_le mode (pos 2)

abbrev pub mode_of : ℤ → Expiry
mode_of mode = if int_lt (pos 1) mode then AfterInvoke else (if int_lt (pos 0) mode then AfterWrite else Never)

-- without an expiry a value never expires; mode 1 or 2 needs a time above 0
abbrev pub is_expiry : Option ExpirationSpec → Bool
is_expiry None = true
is_expiry (Some expiry) = is_mode expiry.mode && (int_le expiry.mode (pos 0) || int_lt (pos 0) expiry.expire_after_millis)

-- a number below 0 is kept as 0
abbrev pub natural : ℤ → ℕ
natural (pos n) = n
natural (negsuc n) = 0

abbrev pub mode_in : Option ExpirationSpec → Expiry
mode_in None = Never
mode_in (Some expiry) = mode_of expiry.mode

abbrev pub millis_in : Option ExpirationSpec → ℕ
millis_in None = 0
millis_in (Some expiry) = natural expiry.expire_after_millis

-- the cell that a missing value declares
abbrev pub declared : PersistedValueSpec → CellSpec
declared missing = record {
  name = missing.state_name;
  typename = missing.type_typename;
  mode = mode_in missing.expiration_spec;
  millis = millis_in missing.expiration_spec;
}

-- a name that is known has to have the same type; an address has at most 64 cells
abbrev pub name_flaw : ℕ → List ℕ → Option (List ℕ) → Option FlawKind
name_flaw count typename None = if nat_lt count 64 then None else Some TooMany
name_flaw count typename (Some other) = if same_bytes other typename then None else Some TypeDiffers

abbrev pub missing_flaw : List Cell → PersistedValueSpec → Option FlawKind
missing_flaw cells missing =
    if is_expiry missing.expiration_spec then name_flaw (length cells) missing.type_typename (type_of missing.state_name cells) else Some BadExpiry

-- the cells that missing values add, in order: each name that is new, as it is declared first
abbrev pub added : List Cell → List PersistedValueSpec → List CellSpec
added cells [] = []
added cells (missing ∷ others) =
    let behind = added (registered (declared missing) cells) others in
    if is_some (found missing.state_name cells) then behind else declared missing ∷ behind

-- ---- the first flaw of a list

abbrev pub flaw_at : FlawKind → ℕ → Flaw
flaw_at kind index = record { kind = kind; index = index; wire = None }

-- of two flaws the first that is there
abbrev pub first_of_two : Option Flaw → Option Flaw → Option Flaw
first_of_two None later = later
first_of_two (Some flaw) later = Some flaw

abbrev pub placed : Option FlawKind → ℕ → Option Flaw
placed None index = None
placed (Some kind) index = Some (flaw_at kind index)

-- the first flaw of the elements of a list, whose places are counted from `at`
abbrev pub first_in : {A : Type 0} → (A → Option FlawKind) → ℕ → List A → Option Flaw
first_in flaw at [] = None
first_in flaw at (x ∷ xs) = first_of_two (placed (flaw x) at) (first_in flaw (at + 1) xs)

-- that of missing values; each is a cell to those behind it
abbrev pub first_missing : List Cell → ℕ → List PersistedValueSpec → Option Flaw
first_missing cells at [] = None
first_missing cells at (missing ∷ others) =
    first_of_two (placed (missing_flaw cells missing) at) (first_missing (registered (declared missing) cells) (at + 1) others)

-- ---- the first flaw of an answer

unfoldable pub result_flaw : Setting → InvocationResponse → Option Flaw
result_flaw setting response =
    first_of_two (first_in (mutation_flaw setting) 0 response.state_mutations)
    (first_of_two (first_in (message_flaw setting) 0 response.outgoing_messages)
    (first_of_two (first_in (delayed_flaw setting) 0 response.delayed_invocations)
    (first_in (egress_flaw setting) 0 response.outgoing_egresses)))

-- at least one name is to be new
abbrev pub none_new : List CellSpec → Option Flaw
none_new [] = Some (flaw_at NoNewName 0)
none_new (spec ∷ specs) = None

unfoldable pub incomplete_flaw : List Cell → List PersistedValueSpec → Option Flaw
incomplete_flaw cells missing = first_of_two (first_missing cells 0 missing) (none_new (added cells missing))

abbrev pub answer_flaw : Setting → FromFunction → Option Flaw
answer_flaw setting (Result response) = result_flaw setting response
answer_flaw setting (Incomplete context) = incomplete_flaw setting.cells context.missing_values

-- bytes that spell no answer, with their first fault
abbrev pub wire_flaw : WireFault → Flaw
wire_flaw fault = record { kind = Wire; index = 0; wire = Some fault }

-- an answer of more than 4,194,304 bytes is not read
abbrev pub too_long : WireFault
too_long = record { kind = OverLimit; at = 4194304 }
