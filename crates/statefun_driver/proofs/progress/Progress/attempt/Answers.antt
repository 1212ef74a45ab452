use Rattle.std.proofs.Common.{◌∙◌, refl, sym, ◌<◌, ◌≤◌, arith}
use Rattle.std.proofs.lemmas.Result.{err_from_is_err_and}
use Rattle.statefun_driver.specs.Turns.{patience_at}
use Rattle.statefun_driver.specs.Work.{called, flying, here, opening_at, plan_of}
use Rattle.statefun_driver.proofs.Leading.{leads_none, ends_failing}
use Rattle.statefun_driver.proofs.Calls.{poll_failed, poll_told, poll_nothing, late, call_started}
use Rattle.statefun_driver.proofs.progress.Progress.attempt.Goals as goal

pub returns-in_err-start-clause-led : goal.returns-in_err-start-clause-led
unfolding here
returns-in_err-start-clause-led g c reasons =
    let p = err_from_is_err_and c.from_residual.result c.from_residual.ensures.1 in
    let from = opening_at c.args.asked.now.address reasons (here c.args.self.now) in
    let seen = g.O.Outside.seen c.args.outside.now in
    rw (p.1, p.2) (ends_failing (plan_of c.args.job.now) from seen from seen _ _ (leads_none (plan_of c.args.job.now) from seen) tt c.in_err-start.ensures.1)

pub loop-init : goal.loop-init
unfolding here
loop-init g c = record {
  leads = λ reasons.
      call_started (plan_of c.args.job.now) (flying c.args.asked.now.address reasons (here c.args.self.now)) c.args.call (here c.args.self.now) _ _
      (record { url = _; request = _; own = c.requires.call; place = sym c.requires.asked.url; what = c.as_slice.ensures ∙ c.requires.asked.request; heard = c.in_ok-start.ensures });
  rest = refl;
}

pub returns-in_err-poll-clause-led : goal.returns-in_err-poll-clause-led
unfolding here
returns-in_err-poll-clause-led g c reasons =
    let p = err_from_is_err_and c.from_residual-in_err-poll.result c.from_residual-in_err-poll.ensures.1 in
    let few : c.loop.counter < patience_at c.args.job.now.routes c.args.asked.now.address = omega (arith, c.loop-test.true, c.requires.patience) in
    rw (p.1, p.2) (poll_failed (plan_of c.args.job.now) (opening_at c.args.asked.now.address reasons (here c.args.self.now)) (g.O.Outside.seen c.args.outside.now) (flying c.args.asked.now.address reasons (here c.args.self.now)) c.args.call c.loop.counter (here (called c.args.self.now)) _ _ _
    (record { leads = c.loop.invariant.leads reasons; few = few }) c.in_err-poll.ensures.1)

pub returns-in-Some-clause-led : goal.returns-in-Some-clause-led
unfolding here
returns-in-Some-clause-led g c reasons =
    let few : c.loop.counter < patience_at c.args.job.now.routes c.args.asked.now.address = omega (arith, c.loop-test.true, c.requires.patience) in
    poll_told (plan_of c.args.job.now) (opening_at c.args.asked.now.address reasons (here c.args.self.now)) (g.O.Outside.seen c.args.outside.now) (flying c.args.asked.now.address reasons (here c.args.self.now)) c.args.call c.loop.counter (here (called c.args.self.now)) (g.O.Outside.seen c.loop.outside) _ _
    (record { leads = c.loop.invariant.leads reasons; few = few }) (record { outcome = _; own = sym c.in-Some.is ∙ c.own_part-told.ensures; heard = c.in_ok-poll.ensures })

pub loop-preserved : goal.loop-preserved
unfolding here
loop-preserved g c = record {
  leads = λ reasons.
      let few : c.loop.counter < patience_at c.args.job.now.routes c.args.asked.now.address = omega (arith, c.loop-test.true, c.requires.patience) in
      poll_nothing (plan_of c.args.job.now) (opening_at c.args.asked.now.address reasons (here c.args.self.now)) (g.O.Outside.seen c.args.outside.now) (flying c.args.asked.now.address reasons (here c.args.self.now)) c.args.call c.loop.counter (here (called c.args.self.now)) (g.O.Outside.seen c.loop.outside) _
      (record { leads = c.loop.invariant.leads reasons; few = few }) (record { outcome = _; own = sym c.in_default.is ∙ c.own_part-told.ensures; heard = c.in_ok-poll.ensures });
  rest = c.loop.invariant.rest;
}

pub returns-clause-led : goal.returns-clause-led
unfolding here
returns-clause-led g c reasons =
    let out : patience_at c.args.job.now.routes c.args.asked.now.address ≤ c.loop.counter = omega (arith, c.loop-test.false, c.requires.patience) in
    late (plan_of c.args.job.now) (opening_at c.args.asked.now.address reasons (here c.args.self.now)) (g.O.Outside.seen c.args.outside.now) (flying c.args.asked.now.address reasons (here c.args.self.now)) c.args.call c.loop.counter (here (called c.args.self.now)) _ out (c.loop.invariant.leads reasons)
