use Rattle.partition_core.specs.Work.{done}
use Rattle.partition_core.specs.Kept.{work_of}
use Rattle.partition_core.proofs.partition.Partition.register.Goals as goal

pub returns : goal.returns
unfolding work_of done
returns c = record {
  work = λ i. record {
    post = c.return_batch.ensures i;
    cells = c.in_ok-register.ensures.cells i;
    seen = c.in_ok-register.ensures.seen i;
    delays = c.args.self.now.delays.delays;
  };
}
