use Rattle.piece_messages.proofs.RoundTrip.{state-written}
use Rattle.piece_messages.proofs.address_state.encode_address_state.Goals as goal

pub returns-clause-again : goal.returns-clause-again
returns-clause-again c = state-written c.in_ok-bytes.bytes c.args.state.now c.in_ok-bytes.ensures.spelled c.in_ok-bytes.ensures.fits c.in_ok-bytes.ensures.short
