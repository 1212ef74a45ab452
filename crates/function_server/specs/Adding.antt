-- What the function that adds answers.
use Rattle.std.specs.Prelude.{ℤ, pos, ◌+ℤ◌, List, [], ◌∷◌, Option, codes, unwrap_or, filter_map}
use Rattle.std.specs.Option.{option_and_then}
use Rattle.std.specs.Int.{saturate_to_bits}
use Rattle.typed_values.specs.declared.cell.CellSpec.{CellSpec}
use Rattle.typed_values.specs.Wrappers.{int_of, long_name, long_rows, long_of, wrapping}
use Rattle.request_reply.specs.declared.request.InvocationBatchRequest.{InvocationBatchRequest}
use Rattle.request_reply.specs.declared.request.BatchInvocation.{BatchInvocation}
use Rattle.request_reply.specs.declared.answer.InvocationResponse.{InvocationResponse}
use Rattle.request_reply.specs.declared.answer.PersistedValueMutation.{PersistedValueMutation}
use Rattle.function_server.specs.Demonstration.{one_cell, shipped, set_to}

abbrev pub total_cells : List CellSpec
total_cells = one_cell (codes "sum") long_name

-- the ints among letters, in order
abbrev pub int_in : BatchInvocation → Option ℤ
int_in letter = option_and_then int_of letter.argument

abbrev pub ints_in : List BatchInvocation → List ℤ
ints_in letters = filter_map int_in letters

-- the sum before: the shipped long, or 0
abbrev pub sum_in : InvocationBatchRequest → ℤ
sum_in batch = unwrap_or (option_and_then long_of (shipped batch.state (codes "sum"))) (pos 0)

-- a number more, within a long
abbrev pub next_sum : ℤ → ℤ → ℤ
next_sum total number = saturate_to_bits 63 (total +ℤ number)

-- each int is added in turn
abbrev pub sum_after : ℤ → List ℤ → ℤ
sum_after total [] = total
sum_after total (number ∷ numbers) = sum_after (next_sum total number) numbers

-- the cell is set where an int came
abbrev pub sum_set : ℤ → List ℤ → List PersistedValueMutation
sum_set total [] = []
sum_set total (number ∷ numbers) = set_to (codes "sum") (wrapping long_name long_rows (sum_after total (number ∷ numbers))) ∷ []

abbrev pub total_answer : InvocationBatchRequest → InvocationResponse
total_answer batch = record {
  state_mutations = sum_set (sum_in batch) (ints_in batch.invocations);
  outgoing_messages = [];
  delayed_invocations = [];
  outgoing_egresses = [];
}
