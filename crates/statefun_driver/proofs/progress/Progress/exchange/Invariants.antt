use Rattle.std.proofs.Common.{◌≡◌, ◌+◌, ◌≤◌, [], length}
use Rattle.statefun_driver.specs.Turns.{at, tried_phase}
use Rattle.statefun_driver.specs.Work.{flying, here, opening_at, plan_of}
use Rattle.statefun_driver.specs.Traces.{Leads}
use Rattle.statefun_driver.proofs.progress.Progress.exchange.Given as goal

-- so many attempts failed
abbrev pub invariant-loop : goal.invariant-loop
invariant-loop g l = record {
  leads : Leads (plan_of l.job) (opening_at l.asked.address [] (here l.fn.self)) (g.O.Outside.seen l.fn.outside)
      (at (tried_phase l.job.routes (flying l.asked.address l.reasons (here l.self))) (here l.self)) (g.O.Outside.seen l.outside);
  count : length l.reasons ≡ l.counter;
  rest : l.self ≡ record l.fn.self { calls = l.self.calls };
  calls : l.self.calls ≤ l.fn.self.calls + l.counter;
}
