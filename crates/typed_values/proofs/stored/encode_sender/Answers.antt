use Rattle.typed_values.proofs.RoundTrip.{sender-written}
use Rattle.typed_values.proofs.stored.encode_sender.Goals as goal

pub returns-clause-again : goal.returns-clause-again
returns-clause-again c = sender-written c.in_ok-bytes.bytes c.args.sender.now c.in_ok-bytes.ensures.spelled c.in_ok-bytes.ensures.fits c.in_ok-bytes.ensures.short
