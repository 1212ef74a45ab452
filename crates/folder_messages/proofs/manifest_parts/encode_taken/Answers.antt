use Rattle.folder_messages.proofs.ManifestRoundTrip.{taken-written}
use Rattle.folder_messages.proofs.manifest_parts.encode_taken.Goals as goal

pub returns-clause-again : goal.returns-clause-again
returns-clause-again c = taken-written c.in_ok-bytes.bytes c.args.taken.now c.in_ok-bytes.ensures.spelled c.in_ok-bytes.ensures.fits c.in_ok-bytes.ensures.short
