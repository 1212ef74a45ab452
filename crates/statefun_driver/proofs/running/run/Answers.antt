use Rattle.std.proofs.Common.{rules, false}
use Rattle.statefun_driver.specs.Turns.{Plan}
use Rattle.statefun_driver.specs.Work.{splits_of}
use Rattle.statefun_driver.proofs.Ended.{at_once}
use Rattle.statefun_driver.proofs.Journal.{objects_stay}
use Rattle.statefun_driver.proofs.running.run.Goals as goal

pub make_turns-end-requires-clause-counts : goal.make_turns-end-requires-clause-counts
unfolding splits_of
make_turns-end-requires-clause-counts g c = c.in-Ok.ensures.splits

pub returns-in_default-clause-ran : goal.returns-in_default-clause-ran
returns-in_default-clause-ran g c =
    let plan : Plan = record { routes = c.args.routes; turns = c.args.turns; rests = false } in
    c.what_turns_come_to_is_a_run.ensures plan _ _ c.new.result _ (search rules) c.requires.attempts (at_once plan _ c.new.result c.new.ensures)

pub returns-clause-objects : goal.returns-clause-objects
returns-clause-objects g c = objects_stay _ _ _ _ _ _ c.make_turns-end.ensures
