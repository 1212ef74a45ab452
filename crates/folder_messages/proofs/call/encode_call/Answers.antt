use Rattle.folder_messages.proofs.RoundTrip.{call-written}
use Rattle.folder_messages.proofs.call.encode_call.Goals as goal

pub returns-clause-again : goal.returns-clause-again
returns-clause-again c = call-written c.in_ok-bytes.bytes c.call_read.result c.args.call.now c.call_read.ensures c.in_ok-bytes.ensures.spelled c.in_ok-bytes.ensures.fits c.in_ok-bytes.ensures.short
