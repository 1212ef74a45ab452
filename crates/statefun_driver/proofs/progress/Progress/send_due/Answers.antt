use Rattle.std.proofs.Common.{◌∙◌, ◌-◌, ◌+◌, subst, ap, refl, Option}
use Rattle.std.proofs.lemmas.Result.{err_from_is_err_and}
use Rattle.typed_values.specs.declared.address.Address.{Address}
use Rattle.partition_core.specs.Work.{IsSent}
use Rattle.partition_core.specs.Kept.{work_of}
use Rattle.statefun_driver.specs.Turns.{dues, send_due}
use Rattle.statefun_driver.specs.Work.{here, plan_of}
use Rattle.statefun_driver.proofs.Dues.{sent_front, none_sent, one_sent, all_sent}
use Rattle.statefun_driver.proofs.progress.Progress.send_due.Goals as goal

pub returns-in_err-address-clause-err : goal.returns-in_err-address-clause-err
unfolding here
returns-in_err-address-clause-err c = let p = err_from_is_err_and c.from_residual.result c.from_residual.ensures.1 in
    rw p.1 (sent_front (plan_of c.args.job.now) (dues - c.loop.counter) (here c.args.self.now) (here c.loop.self) _ c.loop.invariant.same refl)

pub returns-in_default-clause-ok : goal.returns-in_default-clause-ok
unfolding here
returns-in_default-clause-ok c =
    let old = c.loop.self in
    none_sent c.args.job.now.routes (dues - c.loop.counter) (here old) (work_of c.send_due.new.self) _
    (subst (λ (o : Option Address). IsSent old.moment (work_of old.partition) o (work_of c.send_due.new.self)) c.in_default.is c.in_ok-address.ensures) c.loop.invariant.same

pub returns-in_err-note-clause-err : goal.returns-in_err-note-clause-err
unfolding here
returns-in_err-note-clause-err c = let p = err_from_is_err_and c.from_residual-in_err-note.result c.from_residual-in_err-note.ensures.1 in
    rw p.1 (sent_front (plan_of c.args.job.now) (dues - c.loop.counter) (here c.args.self.now) (here c.loop.self) _ c.loop.invariant.same c.in_err-note.ensures.err)

pub loop-preserved : goal.loop-preserved
unfolding here
loop-preserved c =
    let old = c.loop.self in
    let sent = subst (λ (o : Option Address). IsSent old.moment (work_of old.partition) o (work_of c.send_due.new.self)) c.in-Some.is c.in_ok-address.ensures in
    record {
      same = ap (λ x. send_due c.args.job.now.routes (dues - (c.loop.counter + 1)) (here x)) c.in_ok-note.ensures.ok
          ∙ one_sent c.args.job.now.routes c.loop.counter (here old) c.in-Some.address c.args.job.now.splits (work_of c.send_due.new.self) _ c.loop-test.true sent c.args.job.now.all c.loop.invariant.same;
      counts = c.note.ensures.counts ∙ c.loop.invariant.counts;
      calls = c.note.ensures.calls ∙ c.loop.invariant.calls;
      turn = c.note.ensures.turn ∙ c.loop.invariant.turn;
    }

pub returns-clause-ok : goal.returns-clause-ok
returns-clause-ok c = all_sent c.args.job.now.routes c.loop.counter (here c.loop.self) _ c.loop-test.false c.loop.invariant.same
