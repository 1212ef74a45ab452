use Rattle.folder_messages.proofs.ManifestRoundTrip.{complete-written}
use Rattle.folder_messages.proofs.complete.encode_complete.Goals as goal

pub returns-clause-again : goal.returns-clause-again
returns-clause-again c = complete-written c.in_ok-bytes.bytes c.args.complete.now c.in_ok-bytes.ensures.spelled c.in_ok-bytes.ensures.fits c.in_ok-bytes.ensures.short
