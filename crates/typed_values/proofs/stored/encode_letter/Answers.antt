use Rattle.typed_values.proofs.RoundTrip.{letter-written}
use Rattle.typed_values.proofs.stored.encode_letter.Goals as goal

pub returns-clause-again : goal.returns-clause-again
returns-clause-again c = letter-written c.in_ok-bytes.bytes c.args.letter.now c.in_ok-bytes.ensures.spelled c.in_ok-bytes.ensures.fits c.in_ok-bytes.ensures.short
