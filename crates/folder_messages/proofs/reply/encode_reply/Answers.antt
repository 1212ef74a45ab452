use Rattle.folder_messages.proofs.RoundTrip.{reply-written}
use Rattle.folder_messages.proofs.reply.encode_reply.Goals as goal

pub returns-clause-again : goal.returns-clause-again
returns-clause-again c = reply-written c.in_ok-bytes.bytes c.args.reply.now c.in_ok-bytes.ensures.spelled c.in_ok-bytes.ensures.fits c.in_ok-bytes.ensures.short
