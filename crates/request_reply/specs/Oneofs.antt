-- The requests and the answers whole: a oneof each.
use Rattle.std.specs.Prelude.{List, [], ◌∷◌, Option, None, Some}
use Rattle.proto_wire.specs.Message.{Row, members}
use Rattle.request_reply.specs.declared.request.ToFunction.{ToFunction}
use Rattle.request_reply.specs.declared.request.ToFunction.TheVariants.{Invocation}
use Rattle.request_reply.specs.declared.request.InvocationBatchRequest.{InvocationBatchRequest}
use Rattle.request_reply.specs.declared.answer.FromFunction.{FromFunction}
use Rattle.request_reply.specs.declared.answer.FromFunction.TheVariants.{Result, Incomplete}
use Rattle.request_reply.specs.declared.answer.InvocationResponse.{InvocationResponse}
use Rattle.request_reply.specs.declared.answer.IncompleteInvocationContext.{IncompleteInvocationContext}
use Rattle.request_reply.specs.declared.whole.ToRead.{ToRead}
use Rattle.request_reply.specs.declared.whole.FromRead.{FromRead}
use Rattle.request_reply.specs.RequestTables.{empty_batch, batch_rows}
use Rattle.request_reply.specs.AnswerTables.{empty_response, response_rows, empty_context, context_rows}

-- the member that stands, where it is this one
unfoldable pub batch_of : Option ToFunction → Option InvocationBatchRequest
batch_of None = None
batch_of (Some (Invocation batch)) = Some batch

unfoldable pub response_of : Option FromFunction → Option InvocationResponse
response_of None = None
response_of (Some (Result response)) = Some response
response_of (Some (Incomplete context)) = None

unfoldable pub context_of : Option FromFunction → Option IncompleteInvocationContext
context_of None = None
context_of (Some (Result response)) = None
context_of (Some (Incomplete context)) = Some context

unfoldable pub no_request : ToRead
no_request = record { member = None }

unfoldable pub to_rows : List (Row ToRead)
to_rows = members empty_batch batch_rows 100 (λ read. batch_of read.member) (λ read batch. record { member = Some (Invocation batch) }) ∷ []

unfoldable pub no_answer : FromRead
no_answer = record { member = None }

unfoldable pub from_rows : List (Row FromRead)
from_rows =
    members empty_response response_rows 100 (λ read. response_of read.member) (λ read response. record { member = Some (Result response) })
    ∷ members empty_context context_rows 101 (λ read. context_of read.member) (λ read context. record { member = Some (Incomplete context) })
    ∷ []
