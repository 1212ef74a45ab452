use Rattle.std.specs.Prelude.{Err, Ok}
use Rattle.run_words.proofs.Bounds.{in-bounds}
use Rattle.run_words.proofs.FirstWrong.{first-wrong}
use Rattle.run_words.proofs.words.read_run_words.Goals as goal

pub returns-in-Ok-clause-bounds : goal.returns-in-Ok-clause-bounds
returns-in-Ok-clause-bounds c = in-bounds _ (Ok c.in-Ok.asked) c.in-Ok.ensures

pub returns-in-Err-clause-first : goal.returns-in-Err-clause-first
returns-in-Err-clause-first c = first-wrong _ (Err c.in-Err.fault) c.in-Err.ensures
