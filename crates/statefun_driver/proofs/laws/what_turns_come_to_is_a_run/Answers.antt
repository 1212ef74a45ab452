use Rattle.statefun_driver.proofs.Ended.{ends_are_runs}
use Rattle.statefun_driver.proofs.laws.what_turns_come_to_is_a_run.Goals as goal

pub returns : goal.returns
returns c = ends_are_runs c.what_turns_come_to.ensures
