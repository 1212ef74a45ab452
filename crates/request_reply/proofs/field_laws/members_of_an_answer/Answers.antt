use Rattle.request_reply.proofs.Members.{answer-members}
use Rattle.request_reply.proofs.field_laws.members_of_an_answer.Goals as goal

pub returns : goal.returns
returns c = answer-members
