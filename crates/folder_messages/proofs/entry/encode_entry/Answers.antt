use Rattle.folder_messages.proofs.RoundTrip.{entry-written}
use Rattle.folder_messages.proofs.entry.encode_entry.Goals as goal

pub returns-clause-again : goal.returns-clause-again
returns-clause-again c = entry-written c.in_ok-bytes.bytes c.args.entry.now c.in_ok-bytes.ensures.spelled c.in_ok-bytes.ensures.fits c.in_ok-bytes.ensures.short
