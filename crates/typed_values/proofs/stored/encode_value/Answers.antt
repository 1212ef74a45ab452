use Rattle.typed_values.proofs.RoundTrip.{value-written}
use Rattle.typed_values.proofs.stored.encode_value.Goals as goal

pub returns-clause-again : goal.returns-clause-again
returns-clause-again c = value-written c.in_ok-bytes.bytes c.args.value.now c.in_ok-bytes.ensures.spelled c.in_ok-bytes.ensures.fits c.in_ok-bytes.ensures.short
