use Rattle.std.proofs.Common.{append_assoc, arith}
use Rattle.std.proofs.lemmas.List.{append-nil}
use Rattle.request_reply.specs.AnswerTables.{response_rows}
use Rattle.request_reply.proofs.answer_messages.InvocationResponseEncode.put.Goals as goal

pub returns-clause-spelled : goal.returns-clause-spelled
unfolding response_rows
returns-clause-spelled c = grind (arith, append_assoc, append-nil)
