use Rattle.run_record.specs.Machine.{first_state}
use Rattle.run_record.specs.Histories.{delay_calls, sent_late}
use Rattle.run_record.proofs.LawsOfDelays.{late_is}
use Rattle.run_record.proofs.laws.delayed_letters_are_sent_as_they_come_due.Goals as goal

pub returns : goal.returns
unfolding delay_calls sent_late
returns c m lists last entries h address = late_is address m lists first_state last entries h
