use Rattle.std.proofs.Common.{◌≡◌, ◌∙◌, refl, sym, ap, subst, ℕ, ◌<◌, ◌^◌, true, Option, Some, arith}
use Rattle.std.proofs.lemmas.Result.{err_from_is_err_and}
use Rattle.typed_values.specs.declared.address.Address.{Address}
use Rattle.batch_queue.specs.Post.{is_ready}
use Rattle.partition_core.specs.Kept.{work_of}
use Rattle.statefun_driver.specs.Turns.{Control, finish, open_batch, serve}
use Rattle.statefun_driver.specs.Traces.{Leads, IsFront, IsUnbroken}
use Rattle.statefun_driver.specs.Work.{IfAgain, GoesAgain, here, plan_of, served_on}
use Rattle.statefun_driver.proofs.Leading.{leads_none, leads_then, ends_then, ends_wanting}
use Rattle.statefun_driver.proofs.Fronts.{front_same, serve_entries}
use Rattle.statefun_driver.proofs.Resting.{unbroken_rests, rest_serve}
use Rattle.statefun_driver.proofs.Endpoints.{usable_some}
use Rattle.statefun_driver.proofs.Serving.{serve_idle, serve_unserved, serve_opens, called_then}
use Rattle.statefun_driver.proofs.progress.Progress.serve.Goals as goal

pub returns-in_default-clause-led : goal.returns-in_default-clause-led
unfolding here
returns-in_default-clause-led g c =
    let plan = plan_of c.args.job.now in
    let old = here c.args.self.now in
    let seen = g.O.Outside.seen c.args.outside.now in
    subst (λ (x : Control). Leads plan (serve plan old) seen x seen) (serve_idle plan old (sym c.in_default.ensures.first)) (leads_none plan (serve plan old) seen)

pub returns-in_err-address-clause-led : goal.returns-in_err-address-clause-led
unfolding here
returns-in_err-address-clause-led g c =
    let p = err_from_is_err_and c.from_residual.result c.from_residual.ensures.1 in
    let plan = plan_of c.args.job.now in
    let old = here c.args.self.now in
    let seen = g.O.Outside.seen c.args.outside.now in
    rw (p.1, p.2) (ends_wanting plan (serve plan old) seen (serve plan old) old.entries seen (leads_none plan (serve plan old) seen)
    (rest_serve IsUnbroken unbroken_rests plan old, subst (IsFront old.entries) (sym (serve_entries plan old)) (front_same old.entries)))

pub returns-in_default-endpoint_for-clause-led : goal.returns-in_default-endpoint_for-clause-led
unfolding here
returns-in_default-endpoint_for-clause-led g c =
    let plan = plan_of c.args.job.now in
    let old = here c.args.self.now in
    let seen = g.O.Outside.seen c.args.outside.now in
    let first = sym c.in-Some.ensures.first ∙ ap Some (sym c.in_ok-address.ensures) in
    subst (λ (x : Control). Leads plan (serve plan old) seen x seen) (serve_unserved plan old c.in_ok-address.address first (sym c.in_default-endpoint_for.ensures.endpoint)) (leads_none plan (serve plan old) seen)

pub loop-init : goal.loop-init
unfolding here
loop-init g c =
    let plan = plan_of c.args.job.now in
    let old = here c.args.self.now in
    let seen = g.O.Outside.seen c.args.outside.now in
    let first = sym c.in-Some.ensures.first ∙ ap Some (sym c.in_ok-address.ensures) in
    let endpoint = c.in-Some-endpoint_for.endpoint.now in
    let most = c.most_letters-most in
    let small : endpoint.max_letters < 2 ^ 32 = omega (arith, most.ensures.is, most.ensures.small) in
    let some = usable_some endpoint c.in-Some-endpoint_for.ensures.usable in
    record {
      leads = subst (λ (x : Control). Leads plan (serve plan old) seen x seen)
          (serve_opens plan old c.in_ok-address.address endpoint first (sym c.in-Some-endpoint_for.ensures.endpoint) small ∙ ap (λ (n : ℕ). open_batch plan c.in_ok-address.address n old) (sym most.ensures.is))
          (leads_none plan (serve plan old) seen);
      some = omega (arith, most.ensures.is, some);
      fewer = omega (arith, most.ensures.is);
      waits = subst (λ (a : Address). is_ready (work_of c.args.self.now.partition).post a ≡ true) (sym c.in_ok-address.ensures) c.in-Some.ensures.waits;
      kept = record { turn = refl; counts = refl };
      calls = omega (arith, c.requires.calls);
      cells = omega arith;
      bound = omega arith;
    }

pub returns-in_err-serve_batch-clause-led : goal.returns-in_err-serve_batch-clause-led
returns-in_err-serve_batch-clause-led g c =
    let p = err_from_is_err_and c.from_residual-in_err-serve_batch.result c.from_residual-in_err-serve_batch.ensures.1 in
    let plan = plan_of c.args.job.now in
    rw (p.1, p.2) (ends_then plan (serve plan (here c.args.self.now)) (g.O.Outside.seen c.args.outside.now) (open_batch plan c.in_ok-address.address c.loop.most (here c.loop.self)) (g.O.Outside.seen c.loop.outside) c.serve_batch.new.self.entries c.in_err-serve_batch.field-0.0 (g.O.Outside.seen c.serve_batch.new.outside)
    c.loop.invariant.leads c.in_err-serve_batch.ensures.led)

pub returns-in-None-clause-led : goal.returns-in-None-clause-led
returns-in-None-clause-led g c =
    let plan = plan_of c.args.job.now in
    let from = open_batch plan c.in_ok-address.address c.loop.most (here c.loop.self) in
    let next = here c.serve_batch.new.self in
    leads_then plan (serve plan (here c.args.self.now)) (g.O.Outside.seen c.args.outside.now) from (g.O.Outside.seen c.loop.outside) (finish plan next) (g.O.Outside.seen c.serve_batch.new.outside) c.loop.invariant.leads
    (subst (λ (o : Option ℕ). Leads plan from (g.O.Outside.seen c.loop.outside) (served_on plan c.in_ok-address.address o next) (g.O.Outside.seen c.serve_batch.new.outside)) c.in-None.is c.in_ok-serve_batch.ensures.led)

pub loop-preserved : goal.loop-preserved
loop-preserved g c =
    let plan = plan_of c.args.job.now in
    let whose = c.in_ok-address.address in
    let from = open_batch plan whose c.loop.most (here c.loop.self) in
    let next = here c.serve_batch.new.self in
    let again : GoesAgain whose c.loop.most (here c.loop.self) next c.in-Some-2.letters = subst (λ (o : Option ℕ). IfAgain whose c.loop.most (here c.loop.self) next o) c.in-Some-2.is c.in_ok-serve_batch.ensures.again in
    record {
      leads = leads_then plan (serve plan (here c.args.self.now)) (g.O.Outside.seen c.args.outside.now) from (g.O.Outside.seen c.loop.outside) (open_batch plan whose c.in-Some-2.letters next) (g.O.Outside.seen c.serve_batch.new.outside) c.loop.invariant.leads
          (subst (λ (o : Option ℕ). Leads plan from (g.O.Outside.seen c.loop.outside) (served_on plan whose o next) (g.O.Outside.seen c.serve_batch.new.outside)) c.in-Some-2.is c.in_ok-serve_batch.ensures.led);
      some = again.some;
      fewer = let less = again.fewer in omega (arith, less, c.loop.invariant.fewer);
      waits = again.waits;
      kept = called_then c.args.self.now c.loop.self c.serve_batch.new.self c.loop.invariant.kept c.serve_batch.ensures.kept;
      calls = omega (arith, c.serve_batch.ensures.calls, c.loop.invariant.calls, c.in-Some-endpoint_for.ensures.attempts);
      cells = let more = again.more in omega (arith, more, c.loop.invariant.cells);
      bound = let more = again.more in let bound = again.bound in omega (arith, more, bound, c.loop.invariant.cells);
    }
