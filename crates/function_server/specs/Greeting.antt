-- What the function of greetings answers.
use Rattle.std.specs.Prelude.{ℕ, ◌+◌, length, ℤ, pos, ◌+ℤ◌, List, [], ◌∷◌, ◌++◌, map, Option, codes, unwrap_or, filter_map}
use Rattle.std.specs.Option.{option_and_then}
use Rattle.std.specs.Fmt.{signed_decimal}
use Rattle.std.specs.Int.{saturate_to_bits}
use Rattle.typed_values.specs.declared.cell.CellSpec.{CellSpec}
use Rattle.typed_values.specs.Wrappers.{int_name, int_rows, int_of, text_name, text_rows, text_of, wrapping}
use Rattle.request_reply.specs.declared.request.InvocationBatchRequest.{InvocationBatchRequest}
use Rattle.request_reply.specs.declared.request.BatchInvocation.{BatchInvocation}
use Rattle.request_reply.specs.declared.answer.InvocationResponse.{InvocationResponse}
use Rattle.request_reply.specs.declared.answer.PersistedValueMutation.{PersistedValueMutation}
use Rattle.request_reply.specs.declared.answer.OutgoingInvocation.{OutgoingInvocation}
use Rattle.request_reply.specs.declared.answer.EgressMessage.{EgressMessage}
use Rattle.function_server.specs.Demonstration.{address_of, one_cell, shipped, set_to, message_to, egress_to}

abbrev pub greeter_cells : List CellSpec
greeter_cells = one_cell (codes "seen") int_name

-- the texts among letters, in order
abbrev pub text_in : BatchInvocation → Option (List ℕ)
text_in letter = option_and_then text_of letter.argument

abbrev pub names_in : List BatchInvocation → List (List ℕ)
names_in letters = filter_map text_in letters

-- how many came before: the shipped int, or 0
abbrev pub count_in : InvocationBatchRequest → ℤ
count_in batch = unwrap_or (option_and_then int_of (shipped batch.state (codes "seen"))) (pos 0)

-- how many came with so many more: it stays at the greatest int
abbrev pub count_with : ℤ → ℕ → ℤ
count_with count more = saturate_to_bits 31 (count +ℤ pos more)

abbrev pub greeting : List ℕ → ℤ → List ℕ
greeting name count = codes "hello " ++ (name ++ (codes " " ++ signed_decimal count))

abbrev pub greeting_to : List ℕ → ℤ → EgressMessage
greeting_to name count = egress_to (codes "greetings") (wrapping text_name text_rows (record { text = greeting name count }))

-- each name is greeted with the count that it makes; the first of these names is behind so many
abbrev pub greetings : ℤ → ℕ → List (List ℕ) → List EgressMessage
greetings count before [] = []
greetings count before (name ∷ names) = greeting_to name (count_with count (before + 1)) ∷ greetings count (before + 1) names

-- one more for the total
abbrev pub one_more : OutgoingInvocation
one_more = message_to (address_of (codes "total") (codes "all")) (wrapping int_name int_rows (pos 1))

-- the cell is set where a name came
abbrev pub seen_set : ℤ → List (List ℕ) → List PersistedValueMutation
seen_set count [] = []
seen_set count (name ∷ names) = set_to (codes "seen") (wrapping int_name int_rows (count_with count (length (name ∷ names)))) ∷ []

abbrev pub greeted : ℤ → List (List ℕ) → InvocationResponse
greeted count names = record {
  state_mutations = seen_set count names;
  outgoing_messages = map (λ _. one_more) names;
  delayed_invocations = [];
  outgoing_egresses = greetings count 0 names;
}

abbrev pub greeter_answer : InvocationBatchRequest → InvocationResponse
greeter_answer batch = greeted (count_in batch) (names_in batch.invocations)
