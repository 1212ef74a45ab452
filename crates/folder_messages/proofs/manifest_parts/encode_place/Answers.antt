use Rattle.folder_messages.proofs.ManifestRoundTrip.{place-written}
use Rattle.folder_messages.proofs.manifest_parts.encode_place.Goals as goal

pub returns-clause-again : goal.returns-clause-again
returns-clause-again c = place-written c.in_ok-bytes.bytes c.args.place.now c.in_ok-bytes.ensures.spelled c.in_ok-bytes.ensures.fits c.in_ok-bytes.ensures.short
