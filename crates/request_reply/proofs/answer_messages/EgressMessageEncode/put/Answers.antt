use Rattle.std.proofs.Common.{append_assoc, arith}
use Rattle.std.proofs.lemmas.List.{append-nil}
use Rattle.std.proofs.lemmas.Int.{to_z-of_z}
use Rattle.request_reply.specs.AnswerTables.{egress_message_rows}
use Rattle.request_reply.proofs.answer_messages.EgressMessageEncode.put.Goals as goal

pub returns-clause-spelled : goal.returns-clause-spelled
unfolding egress_message_rows
returns-clause-spelled c = grind (arith, append_assoc, append-nil, to_z-of_z)
