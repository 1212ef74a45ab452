use Rattle.piece_messages.proofs.RoundTrip.{feedback-written}
use Rattle.piece_messages.proofs.feedback.encode_feedback.Goals as goal

pub returns-clause-again : goal.returns-clause-again
returns-clause-again c = feedback-written c.in_ok-bytes.bytes c.args.feedback.now c.in_ok-bytes.ensures.spelled c.in_ok-bytes.ensures.fits c.in_ok-bytes.ensures.short
