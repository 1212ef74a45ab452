use Rattle.std.specs.Prelude.{Some}
use Rattle.statefun_cli.proofs.check.end_of_words.Goals as goal

pub returns : goal.returns
returns g c = record {
  ran = record {
    ask = Some c.in_ok-ask.ask;
    asked = c.in_ok-ask.ensures;
    answered = c.answer.ensures.answered;
    sink_cause = c.answer.ensures.cause;
  };
}
