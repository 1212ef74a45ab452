use Rattle.run_record.proofs.NotValid.{not_batch, not_register}
use Rattle.run_record.proofs.laws.only_valid_answers_count.Goals as goal

pub returns : goal.returns
returns c m found st reply flaw is = (not_batch m found st reply flaw is, not_register m found st reply flaw is)
