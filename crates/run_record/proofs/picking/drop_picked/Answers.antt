use Rattle.run_record.specs.StateOf.{mail_of}
use Rattle.run_record.proofs.Picks.{unpicked-more}
use Rattle.run_record.proofs.picking.drop_picked.Goals as goal

pub loop-sender-preserved : goal.loop-sender-preserved
loop-sender-preserved c = unpicked-more c.args.address.now c.args.picks.now c.loop-sender.sender-index c.sender-item.result (mail_of c.args.mail.now) (mail_of c.loop-sender.mail) (mail_of c.drop_first.new.self) c.loop-sender-test.true c.sender-item.is c.loop-sender.invariant c.drop_first.ensures
