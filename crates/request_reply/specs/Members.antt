-- What the members of an answer are, by one record: so the laws of the wire format say what they are of whole bytes.
use Rattle.std.specs.Prelude.{Option}
use Rattle.proto_wire.specs.Message.{belongs}
use Rattle.proto_wire.specs.Encoding.{IsMember}
use Rattle.request_reply.specs.AnswerTables.{empty_response, response_rows, empty_context, context_rows}
use Rattle.request_reply.specs.Oneofs.{response_of, context_of, from_rows}

-- each is a member, and the other one drops it
pub record AnswerMembers : Type 0 where
  pub response : IsMember from_rows response_rows empty_response 100 2 (belongs 101 2) (λ it. response_of it.member)
  pub context : IsMember from_rows context_rows empty_context 101 2 (belongs 100 2) (λ it. context_of it.member)
