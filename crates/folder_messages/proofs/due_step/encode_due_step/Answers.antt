use Rattle.folder_messages.proofs.RoundTrip.{due-written}
use Rattle.folder_messages.proofs.due_step.encode_due_step.Goals as goal

pub returns-clause-again : goal.returns-clause-again
returns-clause-again c = due-written c.in_ok-bytes.bytes c.args.due.now c.in_ok-bytes.ensures.spelled c.in_ok-bytes.ensures.fits c.in_ok-bytes.ensures.short
