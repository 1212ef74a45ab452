use Rattle.piece_messages.proofs.RoundTrip.{commit-written}
use Rattle.piece_messages.proofs.commit.encode_commit.Goals as goal

pub returns-clause-again : goal.returns-clause-again
returns-clause-again c = commit-written c.in_ok-bytes.bytes c.args.commit.now c.in_ok-bytes.ensures.spelled c.in_ok-bytes.ensures.fits c.in_ok-bytes.ensures.short
