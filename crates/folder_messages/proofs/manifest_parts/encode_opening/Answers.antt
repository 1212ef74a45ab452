use Rattle.folder_messages.proofs.ManifestRoundTrip.{opening-written}
use Rattle.folder_messages.proofs.manifest_parts.encode_opening.Goals as goal

pub returns-clause-again : goal.returns-clause-again
returns-clause-again c = opening-written c.in_ok-bytes.bytes c.args.opening.now c.in_ok-bytes.ensures.spelled c.in_ok-bytes.ensures.fits c.in_ok-bytes.ensures.short
