use Rattle.std.proofs.Common.{◌≡◌, ◌-◌}
use Rattle.statefun_driver.specs.Turns.{dues, send_due}
use Rattle.statefun_driver.specs.Work.{here}
use Rattle.statefun_driver.proofs.progress.Progress.send_due.Given as goal

-- what is left to be sent leads to the same
abbrev pub invariant-loop : goal.invariant-loop
invariant-loop l = record {
  same : send_due l.job.routes (dues - l.counter) (here l.self) ≡ send_due l.job.routes dues (here l.fn.self);
  counts : l.self.counts ≡ l.fn.self.counts;
  calls : l.self.calls ≡ l.fn.self.calls;
  turn : l.self.turn ≡ l.fn.self.turn;
}
