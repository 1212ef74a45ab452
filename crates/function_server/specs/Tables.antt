-- Tables of functions, and which function answers a type.
use Rattle.std.specs.Prelude.{List, Option, find}
use Rattle.typed_values.specs.declared.name.TypeName.{TypeName}
use Rattle.typed_values.specs.declared.cell.CellSpec.{CellSpec}
use Rattle.typed_values.specs.Sameness.{same_name}
use Rattle.request_reply.specs.declared.request.InvocationBatchRequest.{InvocationBatchRequest}
use Rattle.request_reply.specs.declared.answer.InvocationResponse.{InvocationResponse}

-- a function under its name: the cells that it declares, and what it answers to each batch
pub record Service : Type 0 where
  pub name : TypeName
  pub declares : List CellSpec
  pub answers : InvocationBatchRequest → InvocationResponse

-- the one that answers a type: of two with one name the first counts
abbrev pub service_of : List Service → TypeName → Option Service
service_of services kind = find (λ service. same_name service.name kind) services
