use Rattle.request_reply.proofs.RoundTrip.{from-written}
use Rattle.request_reply.proofs.whole.encode_from.Goals as goal

pub returns-clause-again : goal.returns-clause-again
returns-clause-again c = from-written c.in_ok-bytes.bytes c.args.value.now c.in_ok-bytes.ensures.spelled c.in_ok-bytes.ensures.fits c.in_ok-bytes.ensures.short
