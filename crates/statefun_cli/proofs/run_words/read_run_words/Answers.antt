use Rattle.std.specs.Prelude.{Err, Ok}
use Rattle.statefun_cli.proofs.FirstWrong.{first-wrong}
use Rattle.statefun_cli.proofs.run_words.read_run_words.Goals as goal

pub returns-in-Err-clause-first : goal.returns-in-Err-clause-first
returns-in-Err-clause-first c = first-wrong _ (Err c.in-Err.fault) c.in-Err.ensures.reads
