use Rattle.typed_values.proofs.RoundTrip.{address-written}
use Rattle.typed_values.proofs.stored.encode_address.Goals as goal

pub returns-clause-again : goal.returns-clause-again
returns-clause-again c = address-written c.in_ok-bytes.bytes c.args.address.now c.in_ok-bytes.ensures.spelled c.in_ok-bytes.ensures.fits c.in_ok-bytes.ensures.short
