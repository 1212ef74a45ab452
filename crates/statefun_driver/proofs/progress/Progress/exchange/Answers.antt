use Rattle.std.proofs.Common.{◌∙◌, refl, sym, ap, subst, ℕ, ◌+◌, ◌<◌, ◌≤◌, List, [], ◌∷◌, length, arith}
use Rattle.std.proofs.lemmas.List.{length-append}
use Rattle.std.proofs.lemmas.Result.{err_from_is_err_and}
use Rattle.typed_values.specs.declared.address.Address.{Address}
use Rattle.typed_values.specs.declared.cells.Cell.{Cell}
use Rattle.sf_outside.specs.declared.call.Call.{Call}
use Rattle.statefun_driver.specs.declared.end.End.TheVariants.{EndpointFailed}
use Rattle.statefun_driver.specs.Traces.{Ends}
use Rattle.statefun_driver.specs.Turns.{attempts_at, at, tried_phase}
use Rattle.statefun_driver.specs.Work.{IsTaken, came_as, flying, here, opening_at, plan_of}
use Rattle.statefun_driver.proofs.Leading.{ends_then, ends_wanting}
use Rattle.statefun_driver.proofs.Fronts.{front_same}
use Rattle.statefun_driver.proofs.Resting.{tried_unbroken}
use Rattle.statefun_driver.proofs.Trying.{attempts_is, patience_is, tries, attempt_failed, attempt_answered, tried_out, attempt_wants, only_calls, asked_still, cells_still}
use Rattle.statefun_driver.proofs.Taking.{is_taken, is_spelled}
use Rattle.statefun_driver.proofs.progress.Progress.exchange.Goals as goal

pub attempt-requires-clause-asked : goal.attempt-requires-clause-asked
attempt-requires-clause-asked g c = asked_still c.args.job.now.routes c.args.asked.now.address c.args.self.now c.loop.self c.args.asked.now c.loop.invariant.rest c.requires.asked

pub attempt-requires-clause-patience : goal.attempt-requires-clause-patience
attempt-requires-clause-patience g c = patience_is c.args.job.now.routes c.args.asked.now.address c.args.endpoint.now c.requires.endpoint

pub attempt-requires-clause-call : goal.attempt-requires-clause-call
unfolding here
attempt-requires-clause-call g c = refl

pub returns-in_err-told-clause-led : goal.returns-in_err-told-clause-led
returns-in_err-told-clause-led g c =
    let p = err_from_is_err_and c.from_residual.result c.from_residual.ensures.1 in
    let limit = attempts_is c.args.job.now.routes c.args.asked.now.address c.args.endpoint.now c.requires.endpoint in
    let few : length c.loop.reasons < attempts_at c.args.job.now.routes c.args.asked.now.address = omega (arith, c.loop.invariant.count, c.loop-test.true, limit) in
    let from = opening_at c.args.asked.now.address [] (here c.args.self.now) in
    let seen = g.O.Outside.seen c.args.outside.now in
    rw (p.1, p.2) (ends_then (plan_of c.args.job.now) from seen (opening_at c.args.asked.now.address c.loop.reasons (here c.loop.self)) (g.O.Outside.seen c.loop.outside) c.attempt.new.self.entries c.in_err-told.field-0.0 (g.O.Outside.seen c.attempt.new.outside)
    (tries (plan_of c.args.job.now) from seen c.args.asked.now.address c.loop.reasons (here c.loop.self) (g.O.Outside.seen c.loop.outside) (record { leads = c.loop.invariant.leads; few = few }))
    (c.in_err-told.ensures.led c.loop.reasons))

pub returns-in_err-reason-clause-led : goal.returns-in_err-reason-clause-led
unfolding here
returns-in_err-reason-clause-led g c =
    let p = err_from_is_err_and c.from_residual-in_err-reason.result c.from_residual-in_err-reason.ensures.1 in
    let limit = attempts_is c.args.job.now.routes c.args.asked.now.address c.args.endpoint.now c.requires.endpoint in
    let few : length c.loop.reasons < attempts_at c.args.job.now.routes c.args.asked.now.address = omega (arith, c.loop.invariant.count, c.loop-test.true, limit) in
    let from = opening_at c.args.asked.now.address [] (here c.args.self.now) in
    let seen = g.O.Outside.seen c.args.outside.now in
    let call : Call = record { leg = c.loop.self.turn; partition = 0; turn = c.loop.self.calls } in
    rw (p.1, p.2) (attempt_wants (plan_of c.args.job.now) from seen c.args.asked.now.address c.loop.reasons call (here c.loop.self) (g.O.Outside.seen c.loop.outside) c.in_ok-told.told (here c.attempt.new.self) (g.O.Outside.seen c.attempt.new.outside)
    (record { leads = c.loop.invariant.leads; few = few }) (record { led = c.in_ok-told.ensures.led c.loop.reasons }) tt)

pub returns-in_err-push-in-Err-clause-led : goal.returns-in_err-push-in-Err-clause-led
unfolding here
returns-in_err-push-in-Err-clause-led g c =
    let p = err_from_is_err_and c.from_residual-in_err-push-in-Err.result c.from_residual-in_err-push-in-Err.ensures.1 in
    let limit = attempts_is c.args.job.now.routes c.args.asked.now.address c.args.endpoint.now c.requires.endpoint in
    let few : length c.loop.reasons < attempts_at c.args.job.now.routes c.args.asked.now.address = omega (arith, c.loop.invariant.count, c.loop-test.true, limit) in
    let from = opening_at c.args.asked.now.address [] (here c.args.self.now) in
    let seen = g.O.Outside.seen c.args.outside.now in
    let call : Call = record { leg = c.loop.self.turn; partition = 0; turn = c.loop.self.calls } in
    rw (p.1, p.2) (attempt_wants (plan_of c.args.job.now) from seen c.args.asked.now.address c.loop.reasons call (here c.loop.self) (g.O.Outside.seen c.loop.outside) c.in_ok-told.told (here c.attempt.new.self) (g.O.Outside.seen c.attempt.new.outside)
    (record { leads = c.loop.invariant.leads; few = few }) (record { led = c.in_ok-told.ensures.led c.loop.reasons }) tt)

pub returns-in-Ok-clause-led : goal.returns-in-Ok-clause-led
returns-in-Ok-clause-led g c =
    let limit = attempts_is c.args.job.now.routes c.args.asked.now.address c.args.endpoint.now c.requires.endpoint in
    let few : length c.loop.reasons < attempts_at c.args.job.now.routes c.args.asked.now.address = omega (arith, c.loop.invariant.count, c.loop-test.true, limit) in
    attempt_answered (plan_of c.args.job.now) (opening_at c.args.asked.now.address [] (here c.args.self.now)) (g.O.Outside.seen c.args.outside.now) c.args.asked.now.address c.loop.reasons (record { leg = c.loop.self.turn; partition = 0; turn = c.loop.self.calls }) (here c.loop.self) (g.O.Outside.seen c.loop.outside) c.in_ok-told.told (here c.attempt.new.self) (g.O.Outside.seen c.attempt.new.outside) c.in-Ok.valid
    (record { leads = c.loop.invariant.leads; few = few }) (record { led = c.in_ok-told.ensures.led c.loop.reasons }) (ap came_as (sym c.in-Ok.is) ∙ c.in_ok-reason.ensures)

pub returns-in-Ok-clause-taken : goal.returns-in-Ok-clause-taken
returns-in-Ok-clause-taken g c =
    let rest = only_calls c.args.self.now c.loop.self c.attempt.new.self c.loop.invariant.rest c.attempt.ensures.kept in
    subst (λ (f : Address → List Cell). IsTaken (f c.args.asked.now.address) c.in-Ok.valid) (cells_still c.args.self.now c.attempt.new.self rest)
    (is_taken c.args.job.now.routes (here c.attempt.new.self) c.args.asked.now.address c.in_ok-told.told c.in-Ok.valid (ap came_as (sym c.in-Ok.is) ∙ c.in_ok-reason.ensures))

pub loop-preserved : goal.loop-preserved
loop-preserved g c =
    let limit = attempts_is c.args.job.now.routes c.args.asked.now.address c.args.endpoint.now c.requires.endpoint in
    let few : length c.loop.reasons < attempts_at c.args.job.now.routes c.args.asked.now.address = omega (arith, c.loop.invariant.count, c.loop-test.true, limit) in
    record {
      leads = rw c.in_ok-push-in-Err.ensures.ok
          (attempt_failed (plan_of c.args.job.now) (opening_at c.args.asked.now.address [] (here c.args.self.now)) (g.O.Outside.seen c.args.outside.now) c.args.asked.now.address c.loop.reasons (record { leg = c.loop.self.turn; partition = 0; turn = c.loop.self.calls }) (here c.loop.self) (g.O.Outside.seen c.loop.outside) c.in_ok-told.told (here c.attempt.new.self) (g.O.Outside.seen c.attempt.new.outside) c.in-Err.reason
          (record { leads = c.loop.invariant.leads; few = few }) (record { led = c.in_ok-told.ensures.led c.loop.reasons }) (ap came_as (sym c.in-Err.is) ∙ c.in_ok-reason.ensures));
      count = ap length c.in_ok-push-in-Err.ensures.ok ∙ length-append c.loop.reasons (c.in-Err.reason ∷ []) ∙ ap (λ (n : ℕ). n + 1) c.loop.invariant.count;
      rest = only_calls c.args.self.now c.loop.self c.attempt.new.self c.loop.invariant.rest c.attempt.ensures.kept;
      calls = omega (arith, c.attempt.ensures.calls, c.loop.invariant.calls);
    }

pub returns-in_err-told-clause-kept : goal.returns-in_err-told-clause-kept
returns-in_err-told-clause-kept g c = only_calls c.args.self.now c.loop.self c.attempt.new.self c.loop.invariant.rest c.attempt.ensures.kept

pub returns-in_err-told-clause-calls : goal.returns-in_err-told-clause-calls
returns-in_err-told-clause-calls g c = omega (arith, c.attempt.ensures.calls, c.loop.invariant.calls, c.loop-test.true)

pub returns-in_err-try_clone-clause-led : goal.returns-in_err-try_clone-clause-led
unfolding here
returns-in_err-try_clone-clause-led g c =
    let p = err_from_is_err_and c.from_residual-in_err-try_clone.result c.from_residual-in_err-try_clone.ensures.1 in
    let last = at (tried_phase c.args.job.now.routes (flying c.args.asked.now.address c.loop.reasons (here c.loop.self))) (here c.loop.self) in
    rw (p.1, p.2) (ends_wanting (plan_of c.args.job.now) (opening_at c.args.asked.now.address [] (here c.args.self.now)) (g.O.Outside.seen c.args.outside.now) last c.loop.self.entries (g.O.Outside.seen c.loop.outside)
    c.loop.invariant.leads (tried_unbroken c.args.job.now.routes (flying c.args.asked.now.address c.loop.reasons (here c.loop.self)), front_same c.loop.self.entries))

pub returns-clause-led : goal.returns-clause-led
unfolding here
returns-clause-led g c =
    let limit = attempts_is c.args.job.now.routes c.args.asked.now.address c.args.endpoint.now c.requires.endpoint in
    let none : attempts_at c.args.job.now.routes c.args.asked.now.address ≤ length c.loop.reasons = omega (arith, c.loop.invariant.count, c.loop-test.false, limit) in
    subst (λ (a : Address). Ends (plan_of c.args.job.now) (opening_at c.args.asked.now.address [] (here c.args.self.now)) (g.O.Outside.seen c.args.outside.now) c.loop.self.entries (EndpointFailed a c.loop.reasons) (g.O.Outside.seen c.loop.outside))
    (sym c.in_ok-try_clone.ensures)
    (tried_out (plan_of c.args.job.now) (opening_at c.args.asked.now.address [] (here c.args.self.now)) (g.O.Outside.seen c.args.outside.now) c.args.asked.now.address c.loop.reasons (here c.loop.self) (g.O.Outside.seen c.loop.outside) c.loop.invariant.leads none)

pub returns-in-Ok-clause-spelled : goal.returns-in-Ok-clause-spelled
returns-in-Ok-clause-spelled g c =
    is_spelled c.args.job.now.routes (here c.attempt.new.self) c.args.asked.now.address c.in_ok-told.told c.in-Ok.valid (ap came_as (sym c.in-Ok.is) ∙ c.in_ok-reason.ensures)
