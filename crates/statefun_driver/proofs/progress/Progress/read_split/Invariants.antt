use Rattle.std.proofs.Common.{◌≡◌}
use Rattle.std.specs.Prelude.{vec_len}
use Rattle.statefun_driver.specs.Turns.{at, read_on, Reading}
use Rattle.statefun_driver.specs.Work.{here, plan_of}
use Rattle.statefun_driver.specs.Traces.{Leads}
use Rattle.statefun_driver.proofs.progress.Progress.read_split.Given as goal

-- so many records were taken
abbrev pub invariant-loop : goal.invariant-loop
invariant-loop g l = record {
  leads : Leads (plan_of l.job) (at (Reading l.split 0) (here l.fn.self)) (g.O.Outside.seen l.fn.outside) (read_on (plan_of l.job) l.split l.counter (here l.self)) (g.O.Outside.seen l.outside);
  counts : vec_len l.self.counts ≡ vec_len l.fn.self.counts;
  calls : l.self.calls ≡ l.fn.self.calls;
  turn : l.self.turn ≡ l.fn.self.turn;
}
