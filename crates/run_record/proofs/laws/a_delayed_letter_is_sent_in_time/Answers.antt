use Rattle.std.specs.Prelude.{[]}
use Rattle.run_record.specs.Histories.{delay_calls}
use Rattle.run_record.proofs.laws.a_delayed_letter_is_sent_in_time.Goals as goal

pub returns : goal.returns
returns c m lists entries address = c.none_is_sent_early.ensures (delay_calls m lists entries address) []
