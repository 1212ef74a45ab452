use Rattle.run_record.proofs.LawsOfAnswers.{batch_spelled, register_spelled}
use Rattle.run_record.proofs.laws.answers_take_effect_as_spelled.Goals as goal

pub returns : goal.returns
returns c m found st reply act = (batch_spelled m found st reply act, register_spelled m found st reply act)
