use Rattle.std.proofs.Common.{append_assoc, arith}
use Rattle.std.proofs.lemmas.List.{append-nil}
use Rattle.std.proofs.lemmas.Int.{to_z-of_z}
use Rattle.request_reply.specs.RequestTables.{persisted_value_rows}
use Rattle.request_reply.proofs.request_messages.PersistedValueEncode.put.Goals as goal

pub returns-clause-spelled : goal.returns-clause-spelled
unfolding persisted_value_rows
returns-clause-spelled c = grind (arith, append_assoc, append-nil, to_z-of_z)
