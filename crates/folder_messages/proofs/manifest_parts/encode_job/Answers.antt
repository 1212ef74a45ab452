use Rattle.folder_messages.proofs.ManifestRoundTrip.{job-written}
use Rattle.folder_messages.proofs.manifest_parts.encode_job.Goals as goal

pub returns-clause-again : goal.returns-clause-again
returns-clause-again c = job-written c.in_ok-bytes.bytes c.args.job.now c.in_ok-bytes.ensures.spelled c.in_ok-bytes.ensures.fits c.in_ok-bytes.ensures.short
