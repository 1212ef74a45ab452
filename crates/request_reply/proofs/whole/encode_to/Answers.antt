use Rattle.request_reply.proofs.RoundTrip.{to-written}
use Rattle.request_reply.proofs.whole.encode_to.Goals as goal

pub returns-clause-again : goal.returns-clause-again
returns-clause-again c = to-written c.in_ok-bytes.bytes c.args.value.now c.in_ok-bytes.ensures.spelled c.in_ok-bytes.ensures.fits c.in_ok-bytes.ensures.short
