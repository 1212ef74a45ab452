use Rattle.typed_values.proofs.RoundTrip.{delay-written}
use Rattle.typed_values.proofs.stored.encode_delay.Goals as goal

pub returns-clause-again : goal.returns-clause-again
returns-clause-again c = delay-written c.in_ok-bytes.bytes c.args.delay.now c.in_ok-bytes.ensures.spelled c.in_ok-bytes.ensures.fits c.in_ok-bytes.ensures.short
