use Rattle.folder_messages.proofs.ManifestRoundTrip.{manifest-written}
use Rattle.folder_messages.proofs.manifest_message.encode_manifest.Goals as goal

pub returns-clause-again : goal.returns-clause-again
returns-clause-again c = manifest-written c.in_ok-bytes.bytes c.args.manifest.now c.in_ok-bytes.ensures.spelled c.in_ok-bytes.ensures.fits c.in_ok-bytes.ensures.short
