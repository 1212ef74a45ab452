use Rattle.run_record.specs.Machine.{first_state}
use Rattle.run_record.proofs.LawsOfMail.{delivered-is}
use Rattle.run_record.proofs.laws.letters_are_delivered_in_order.Goals as goal

pub returns : goal.returns
returns c m lists last entries h sender target = delivered-is m lists first_state last entries h sender target
