-- The canonical spellings, and the values that bytes spell.
use Rattle.std.specs.Prelude.{ℕ, List, length, Some, Result}
use Rattle.proto_wire.specs.declared.fault.WireFault.{WireFault}
use Rattle.proto_wire.specs.Varint.{◌>>=◌}
use Rattle.proto_wire.specs.Places.{present}
use Rattle.proto_wire.specs.Message.{spelling, value_of}
use Rattle.request_reply.specs.declared.request.ToFunction.{ToFunction}
use Rattle.request_reply.specs.declared.answer.FromFunction.{FromFunction}
use Rattle.request_reply.specs.Oneofs.{no_request, to_rows, no_answer, from_rows}

-- the canonical spelling of a request
unfoldable pub to_spelling : ToFunction → List ℕ
to_spelling request = spelling to_rows (record { member = Some request })

-- the canonical spelling of an answer
unfoldable pub from_spelling : FromFunction → List ℕ
from_spelling answer = spelling from_rows (record { member = Some answer })

-- the request that the bytes spell, or their first fault
unfoldable pub to_value : List ℕ → Result ToFunction WireFault
to_value bytes = value_of to_rows no_request bytes >>= λ read. present (length bytes) read.member

-- the answer that the bytes spell, or their first fault
unfoldable pub from_value : List ℕ → Result FromFunction WireFault
from_value bytes = value_of from_rows no_answer bytes >>= λ read. present (length bytes) read.member
