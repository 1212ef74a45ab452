use Rattle.std.proofs.Common.{◌≡◌}
use Rattle.std.specs.Prelude.{vec_len}
use Rattle.statefun_driver.specs.Turns.{read_from}
use Rattle.statefun_driver.specs.Work.{here, plan_of}
use Rattle.statefun_driver.specs.Traces.{Leads}
use Rattle.statefun_driver.proofs.progress.Progress.read_splits.Given as goal

-- the splits so far were read
abbrev pub invariant-loop-split : goal.invariant-loop-split
invariant-loop-split g l = record {
  leads : Leads (plan_of l.job) (read_from (plan_of l.job) 0 (here l.fn.self)) (g.O.Outside.seen l.fn.outside) (read_from (plan_of l.job) l.split (here l.self)) (g.O.Outside.seen l.outside);
  counts : vec_len l.self.counts ≡ vec_len l.fn.self.counts;
  calls : l.self.calls ≡ l.fn.self.calls;
  turn : l.self.turn ≡ l.fn.self.turn;
}
