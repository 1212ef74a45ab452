use Rattle.run_record.specs.Machine.{first_state}
use Rattle.run_record.proofs.LawsOfEgress.{egress-is}
use Rattle.run_record.proofs.laws.egress_is_that_of_the_answers.Goals as goal

pub returns : goal.returns
returns c m lists last entries h address name = egress-is m lists first_state last entries h address name
