use Rattle.typed_values.specs.declared.letter.Sender.TheVariants.{Function}
use Rattle.run_record.specs.Machine.{first_state}
use Rattle.run_record.specs.Histories.{delay_calls}
use Rattle.run_record.proofs.LawsOfOwn.{delays_made}
use Rattle.run_record.proofs.laws.delays_are_those_of_accepted_answers.Goals as goal

pub returns : goal.returns
unfolding delay_calls
returns c m lists last entries h address = delays_made m lists (Function address) first_state last entries h
