use Rattle.partition_core.specs.Kept.{work_of}
use Rattle.partition_core.proofs.Sending.{sent_is}
use Rattle.partition_core.proofs.partition.Partition.send_due.Goals as goal

pub returns : goal.returns
unfolding work_of
returns c =
    sent_is c.args.moment (work_of c.args.self.now) (work_of c.put.new.self) c.in-Some.delay c.next_due.new.self.delays c.in_ok-sender.sender
    c.in-Some.ensures.due c.in_ok-put.ensures c.in_ok-sender.ensures
