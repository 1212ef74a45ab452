use Rattle.std.proofs.Common.{◌≡◌}
use Rattle.std.specs.Prelude.{vec_len}
use Rattle.statefun_driver.specs.Turns.{at, no_origin, first_control, turns_phase}
use Rattle.statefun_driver.specs.Work.{here, plan_of}
use Rattle.statefun_driver.specs.Traces.{Leads}
use Rattle.statefun_driver.proofs.progress.Progress.make_turns.Given as goal

-- so many turns were made
abbrev pub invariant-loop : goal.invariant-loop
invariant-loop g l = record {
  leads : Leads (plan_of l.job) (first_control (plan_of l.job) no_origin) (g.O.Outside.seen l.fn.outside)
      (at (turns_phase (plan_of l.job) l.counter l.self.entries) (here l.self)) (g.O.Outside.seen l.outside);
  turn : l.self.turn ≡ l.counter;
  counts : vec_len l.self.counts ≡ vec_len l.fn.self.counts;
}
