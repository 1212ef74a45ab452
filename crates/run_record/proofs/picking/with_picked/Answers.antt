use Rattle.std.proofs.Common.{◌∙◌, sym, ap}
use Rattle.std.specs.BTreeMap.{is_at}
use Rattle.std.specs.Map.{lookup}
use Rattle.std.specs.Prelude.{unwrap_or}
use Rattle.typed_values.specs.declared.letter.Sender.{Sender}
use Rattle.keyed_queues.specs.Keys.{sender_order}
use Rattle.keyed_queues.specs.Queues.{number_at}
use Rattle.run_record.specs.StateOf.{mail_of}
use Rattle.run_record.proofs.Picks.{counted-more, pick_sized, pick_missing, sized_none, sized_end, capped_again}
use Rattle.run_record.proofs.picking.with_picked.Goals as goal

pub loop-sender-init : goal.loop-sender-init
loop-sender-init c = record {
  counted = λ sender. ap (λ entries. unwrap_or (lookup (is_at (sender_order sender)) entries) 0) c.new-tally.ensures;
  so_far = λ records is. (capped_again c.args.head records is, sized_none c.args.address.now (λ sender. mail_of c.args.mail.now sender c.args.address.now) c.args.picks.now records c.args.head is);
}

pub loop-sender-preserved : goal.loop-sender-preserved
loop-sender-preserved c =
    let mail = λ (sender : Sender). mail_of c.args.mail.now sender c.args.address.now in
    let pick = c.sender-item.result in
    record {
      counted = counted-more c.args.picks.now c.loop-sender.sender-index pick (number_at sender_order c.loop-sender.tally.numbers) (number_at sender_order c.set.new.self.numbers) c.at-count.result c.loop-sender-test.true c.sender-item.is c.loop-sender.invariant.counted c.at-count.ensures c.in_ok-set.ensures.ok;
      so_far = λ records is.
          let so = c.loop-sender.invariant.so_far records is in
          let more = c.add.ensures c.args.address.now c.loop-sender.size so.0 in (
            capped_again c.add.new.self _ more,
            so.1 ∙ pick_sized c.args.address.now mail c.args.picks.now c.loop-sender.sender-index pick c.loop-sender.size c.add.new.self c.at-count.result c.in-Some.argument.now c.loop-sender-test.true c.sender-item.is (c.at-count.ensures ∙ c.loop-sender.invariant.counted pick) c.in-Some.ensures more,
          );
    }

pub returns-in_default : goal.returns-in_default
returns-in_default c records is =
    let so = c.loop-sender.invariant.so_far records is in
    sym (so.1 ∙ pick_missing c.args.address.now (λ (sender : Sender). mail_of c.args.mail.now sender c.args.address.now) c.args.picks.now c.loop-sender.sender-index c.sender-item.result c.loop-sender.size c.at-count.result c.loop-sender-test.true c.sender-item.is (c.at-count.ensures ∙ c.loop-sender.invariant.counted c.sender-item.result) c.in_default.ensures)

pub returns : goal.returns
returns c records is =
    let so = c.loop-sender.invariant.so_far records is in
    sym (so.1 ∙ sized_end c.args.address.now (λ (sender : Sender). mail_of c.args.mail.now sender c.args.address.now) c.args.picks.now c.loop-sender.sender-index c.loop-sender.size c.loop-sender-test.false so.0)
