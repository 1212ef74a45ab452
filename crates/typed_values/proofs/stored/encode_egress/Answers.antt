use Rattle.typed_values.proofs.RoundTrip.{egress-written}
use Rattle.typed_values.proofs.stored.encode_egress.Goals as goal

pub returns-clause-again : goal.returns-clause-again
returns-clause-again c = egress-written c.in_ok-bytes.bytes c.args.egress.now c.in_ok-bytes.ensures.spelled c.in_ok-bytes.ensures.fits c.in_ok-bytes.ensures.short
