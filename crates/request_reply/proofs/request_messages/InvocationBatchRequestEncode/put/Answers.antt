use Rattle.std.proofs.Common.{append_assoc, arith}
use Rattle.std.proofs.lemmas.List.{append-nil}
use Rattle.request_reply.specs.RequestTables.{batch_rows}
use Rattle.request_reply.proofs.request_messages.InvocationBatchRequestEncode.put.Goals as goal

pub returns-clause-spelled : goal.returns-clause-spelled
unfolding batch_rows
returns-clause-spelled c = grind (arith, append_assoc, append-nil)
