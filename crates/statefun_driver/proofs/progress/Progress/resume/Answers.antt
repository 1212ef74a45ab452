use Rattle.std.specs.Prelude.{get_or}
use Rattle.partition_core.specs.Kept.{work_of}
use Rattle.statefun_driver.specs.Turns.{Origin, rested}
use Rattle.statefun_driver.specs.Work.{here}
use Rattle.statefun_driver.proofs.progress.Progress.resume.Goals as goal

pub returns-clause-here : goal.returns-clause-here
unfolding here
returns-clause-here c =
    let start : Origin = record { turn = c.args.turn; moment = c.args.moment; counts = λ split. get_or c.args.taken.now split 0; work = work_of c.args.partition } in
    λ i. record (rested start) { counts = c.in_ok-counts_of.ensures.counts i; entries = c.new.ensures i }
