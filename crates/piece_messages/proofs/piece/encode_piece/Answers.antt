use Rattle.piece_messages.proofs.RoundTrip.{piece-written}
use Rattle.piece_messages.proofs.piece.encode_piece.Goals as goal

pub returns-clause-again : goal.returns-clause-again
returns-clause-again c = piece-written c.in_ok-bytes.bytes c.args.piece.now c.in_ok-bytes.ensures.spelled c.in_ok-bytes.ensures.fits c.in_ok-bytes.ensures.short
