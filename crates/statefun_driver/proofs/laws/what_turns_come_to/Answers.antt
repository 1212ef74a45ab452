use Rattle.statefun_driver.proofs.Stretching.{traces_are_stretches}
use Rattle.statefun_driver.proofs.laws.what_turns_come_to.Goals as goal

pub returns : goal.returns
returns c =
    traces_are_stretches
    (record {
      machine = c.a_partition_is_the_machine.ensures;
      asked = c.answers_in_turn_are_asked.ensures;
      due = c.a_due_letter_is_made.ensures;
      size = c.a_request_is_its_head_and_its_letters.ensures;
    })
