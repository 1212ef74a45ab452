use Rattle.std.proofs.Common.{◌≡◌}
use Rattle.request_reply.specs.declared.flaw.Reason.{Reason}
use Rattle.std.specs.Prelude.{List}
use Rattle.statefun_driver.specs.Turns.{wait}
use Rattle.statefun_driver.specs.Work.{called, flying, here, opening_at, plan_of}
use Rattle.statefun_driver.specs.Traces.{Leads}
use Rattle.statefun_driver.proofs.progress.Progress.attempt.Given as goal

-- so many polls told nothing
abbrev pub invariant-loop : goal.invariant-loop
invariant-loop g l = record {
  leads : (reasons : List Reason) → Leads (plan_of l.job) (opening_at l.asked.address reasons (here l.fn.self)) (g.O.Outside.seen l.fn.outside)
      (wait (plan_of l.job) (flying l.asked.address reasons (here l.fn.self)) l.call l.counter (here l.self)) (g.O.Outside.seen l.outside);
  rest : l.self ≡ called l.fn.self;
}
