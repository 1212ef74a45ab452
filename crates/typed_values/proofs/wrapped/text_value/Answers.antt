use Rattle.proto_wire.specs.Message.{spelled_bytes}
use Rattle.typed_values.specs.Wrappers.{text_rows, text_name}
use Rattle.typed_values.proofs.RoundTrip.{made-is, text-written}
use Rattle.typed_values.proofs.wrapped.text_value.Goals as goal

pub returns-clause-again : goal.returns-clause-again
unfolding text_rows
returns-clause-again c = text-written c.in_ok-value.value c.args.text.now (made-is text_name c.in_ok-value.value c.new.result c.in_ok-bytes.bytes (spelled_bytes 1 c.args.text.now) c.in_ok-value.ensures.is c.new.ensures c.in_ok-bytes.ensures.spelled)
    c.in_ok-bytes.ensures.fits c.in_ok-value.ensures.short
