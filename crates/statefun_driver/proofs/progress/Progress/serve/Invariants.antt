use Rattle.std.proofs.Common.{◌≡◌, ◌*◌, ◌≤◌, true, length}
use Rattle.batch_queue.specs.Post.{is_ready}
use Rattle.statefun_driver.specs.Turns.{open_batch, serve}
use Rattle.statefun_driver.specs.Work.{IsCalledBy, here, plan_of}
use Rattle.statefun_driver.specs.Traces.{Leads}
use Rattle.statefun_driver.proofs.progress.Progress.serve.Given as goal

-- so many batches missed values, and registered at least one each
abbrev pub invariant-loop : goal.invariant-loop
invariant-loop g l = record {
  leads : Leads (plan_of l.job) (serve (plan_of l.job) (here l.fn.self)) (g.O.Outside.seen l.fn.outside) (open_batch (plan_of l.job) l.address l.most (here l.self)) (g.O.Outside.seen l.outside);
  some : 1 ≤ l.most;
  fewer : l.most ≤ l.endpoint.max_letters;
  waits : is_ready (here l.self).work.post l.address ≡ true;
  kept : IsCalledBy l.fn.self l.self;
  calls : l.self.calls ≤ 100 * l.counter;
  cells : l.counter ≤ length ((here l.self).work.cells l.address);
  bound : l.counter ≤ 64;
}
