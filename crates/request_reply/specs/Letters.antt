-- A letter as an invocation of a batch.
use Rattle.std.specs.Prelude.{ℕ, List, Option, Some, None}
use Rattle.proto_wire.specs.Record.{bytes_record}
use Rattle.proto_wire.specs.Message.{spelling}
use Rattle.typed_values.specs.declared.address.Address.{Address}
use Rattle.typed_values.specs.declared.letter.Sender.{Sender}
use Rattle.typed_values.specs.declared.letter.Sender.TheVariants.{Split, Function}
use Rattle.typed_values.specs.declared.letter.Letter.{Letter}
use Rattle.request_reply.specs.declared.request.BatchInvocation.{BatchInvocation}
use Rattle.request_reply.specs.RequestTables.{batch_invocation_rows}

-- a caller stands only for a function's letter
abbrev pub caller_of : Sender → Option Address
caller_of (Split split) = None
caller_of (Function address) = Some address

abbrev pub invocation_of : Letter → BatchInvocation
invocation_of letter = record { caller = caller_of letter.sender; argument = Some letter.argument }

-- its record in a batch: field 3
unfoldable pub letter_record : Letter → List ℕ
letter_record letter = bytes_record 3 (spelling batch_invocation_rows (invocation_of letter))
