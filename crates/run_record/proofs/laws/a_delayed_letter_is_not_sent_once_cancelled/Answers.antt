use Rattle.run_record.proofs.LawsOfOwn.{not_cancelled}
use Rattle.run_record.proofs.laws.a_delayed_letter_is_not_sent_once_cancelled.Goals as goal

pub returns : goal.returns
returns c m lists entries address token front behind is looked misses = not_cancelled c.the_least_is_due.ensures looked address token misses front behind
