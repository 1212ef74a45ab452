-- What a request is answered.
use Rattle.std.specs.Prelude.{◌≡◌, ℕ, ◌-◌, ◌^◌, min, pos, Bool, not, List, [], ◌∷◌, map, filter, Option, Some, None, Result, Ok, Err}
use Rattle.std.specs.List.{list_any}
use Rattle.std.specs.Option.{option_and_then}
use Rattle.proto_wire.specs.declared.fault.WireFault.{WireFault}
use Rattle.typed_values.specs.declared.cell.CellSpec.{CellSpec}
use Rattle.typed_values.specs.declared.cell.Expiry.{Expiry}
use Rattle.typed_values.specs.declared.cell.Expiry.TheVariants.{Never, AfterWrite, AfterInvoke}
use Rattle.typed_values.specs.Sameness.{same_bytes}
use Rattle.request_reply.specs.declared.request.ToFunction.{ToFunction}
use Rattle.request_reply.specs.declared.request.ToFunction.TheVariants.{Invocation}
use Rattle.request_reply.specs.declared.request.InvocationBatchRequest.{InvocationBatchRequest}
use Rattle.request_reply.specs.declared.request.PersistedValue.{PersistedValue}
use Rattle.request_reply.specs.declared.answer.FromFunction.{FromFunction}
use Rattle.request_reply.specs.declared.answer.FromFunction.TheVariants.{Result as Served, Incomplete}
use Rattle.request_reply.specs.declared.answer.InvocationResponse.{InvocationResponse}
use Rattle.request_reply.specs.declared.answer.PersistedValueSpec.{PersistedValueSpec}
use Rattle.request_reply.specs.declared.answer.ExpirationSpec.{ExpirationSpec}
use Rattle.request_reply.specs.Spelling.{to_value, from_spelling}
use Rattle.function_server.specs.declared.fault.ServeFault.{ServeFault}
use Rattle.function_server.specs.declared.fault.ServeFault.TheVariants.{Wire, NotServed, OutOfMemory}
use Rattle.function_server.specs.Tables.{Service, service_of}

-- a state names a declared cell
abbrev pub is_named : List PersistedValue → CellSpec → Bool
is_named state cell = list_any (λ value. same_bytes value.state_name cell.name) state

-- when a cell's value expires: nothing is said where it never does, and the wire format knows at most 2^63 - 1 milliseconds
abbrev pub expiration_of : Expiry → ℕ → Option ExpirationSpec
expiration_of Never millis = None
expiration_of AfterWrite millis = Some (record { mode = pos 1; expire_after_millis = pos (min millis (2 ^ 63 - 1)) })
expiration_of AfterInvoke millis = Some (record { mode = pos 2; expire_after_millis = pos (min millis (2 ^ 63 - 1)) })

abbrev pub missing_value : CellSpec → PersistedValueSpec
missing_value cell = record { state_name = cell.name; expiration_spec = expiration_of cell.mode cell.millis; type_typename = cell.typename }

-- the declared cells that a state does not name, in the order of their declaration
abbrev pub missing_of : List CellSpec → List PersistedValue → List PersistedValueSpec
missing_of declares state = map missing_value (filter (λ cell. not (is_named state cell)) declares)

-- where declared cells are missing the answer is which ones, else it is the function's
abbrev pub unless_missing : List PersistedValueSpec → InvocationResponse → FromFunction
unless_missing [] response = Served response
unless_missing (value ∷ values) response = Incomplete (record { missing_values = value ∷ values })

abbrev pub answer_of : List CellSpec → InvocationResponse → InvocationBatchRequest → FromFunction
answer_of declares response batch = unless_missing (missing_of declares batch.state) response

-- why a request has no answer
pub data Refusal : Type 0 where
  misspelled : WireFault → Refusal
  not_served : Refusal

abbrev pub answer_by : Option Service → InvocationBatchRequest → Result FromFunction Refusal
answer_by None batch = Err not_served
answer_by (Some service) batch = Ok (answer_of service.declares (service.answers batch) batch)

-- the answer of the target's function
abbrev pub answer_to : List Service → InvocationBatchRequest → Result FromFunction Refusal
answer_to services batch = answer_by (option_and_then (λ target. service_of services target.kind) batch.target) batch

abbrev pub spelled : Result FromFunction Refusal → Result (List ℕ) Refusal
spelled (Ok answer) = Ok (from_spelling answer)
spelled (Err refusal) = Err refusal

abbrev pub answer_read : List Service → Result ToFunction WireFault → Result (List ℕ) Refusal
answer_read services (Ok (Invocation batch)) = spelled (answer_to services batch)
answer_read services (Err fault) = Err (misspelled fault)

-- the bytes that answer those of a request, or why there are none
unfoldable pub bytes_for : List Service → List ℕ → Result (List ℕ) Refusal
bytes_for services body = answer_read services (to_value body)

-- the fault is this refusal, or want of memory
abbrev pub Refuses : {A : Type 0} → ServeFault → Result A Refusal → Type 0
Refuses (Wire fault) answer = answer ≡ Err (misspelled fault)
Refuses NotServed answer = answer ≡ Err not_served
Refuses OutOfMemory answer = Unit {0}

-- a call gives this answer, or fails as it says; only want of memory is free
abbrev pub Gives : {A : Type 0} → Result A ServeFault → Result A Refusal → Type 0
Gives (Ok given) answer = answer ≡ Ok given
Gives (Err fault) answer = Refuses fault answer
