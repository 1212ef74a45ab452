use Rattle.proto_wire.specs.Message.{spelled_bool}
use Rattle.typed_values.specs.Wrappers.{bool_rows, bool_name}
use Rattle.typed_values.proofs.RoundTrip.{made-is, bool-written}
use Rattle.typed_values.proofs.wrapped.bool_value.Goals as goal

pub returns-clause-again : goal.returns-clause-again
unfolding bool_rows
returns-clause-again c = bool-written c.in_ok-value.value c.args.flag (made-is bool_name c.in_ok-value.value c.new.result c.in_ok-bytes.bytes (spelled_bool 1 c.args.flag) c.in_ok-value.ensures.is c.new.ensures c.in_ok-bytes.ensures) c.in_ok-value.ensures.short
