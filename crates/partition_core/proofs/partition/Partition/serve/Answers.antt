use Rattle.std.proofs.Common.{◌∙◌, ap, map}
use Rattle.delayed_messages.specs.Laws.{after_all as delays_after}
use Rattle.run_record.specs.Machine.{delay_call}
use Rattle.partition_core.specs.Work.{put_all, done}
use Rattle.partition_core.specs.Kept.{work_of}
use Rattle.partition_core.proofs.partition.Partition.serve.Goals as goal

pub returns-clause-work : goal.returns-clause-work
unfolding work_of done
returns-clause-work c =
    c.in_ok-post.ensures ∙ (λ i. record {
      post = put_all c.args.effects.letters (c.take_batch.ensures i);
      cells = c.in_ok-serve.ensures.cells i;
      seen = c.in_ok-serve.ensures.seen i;
      delays = (c.change_delays.ensures ∙ ap (delays_after (map (delay_call c.args.reply.now.address) c.args.effects.delays)) c.reserve.ensures.delays) i;
    })
