use Rattle.std.proofs.Common.{◌≡◌, ◌∙◌, sym, subst, true, false, [], Option}
use Rattle.std.proofs.lemmas.Result.{err_from_is_err_and}
use Rattle.partition_core.specs.declared.opened.Opened.{Opened}
use Rattle.partition_core.specs.Batches.{Opens, IsTooLarge}
use Rattle.partition_core.specs.Kept.{work_of}
use Rattle.statefun_driver.specs.Turns.{open_batch}
use Rattle.statefun_driver.specs.Work.{here, opening_at, plan_of}
use Rattle.statefun_driver.specs.Traces.{IsUnbroken}
use Rattle.statefun_driver.proofs.Fronts.{open_entries}
use Rattle.statefun_driver.proofs.Resting.{unbroken_rests, rest_open}
use Rattle.statefun_driver.proofs.Batches.{asked_bounds, open_some, asked_led, open_asked, open_few_picks, open_cells, opening_wants, opening_fails, on_ok_of}
use Rattle.statefun_driver.proofs.progress.Progress.open.Goals as goal

pub unreachable-requires : goal.unreachable-requires
unfolding here
unreachable-requires c =
    let old = c.args.self.now in
    let h = subst (λ (o : Option Opened). Opens (asked_bounds c.args.endpoint.now c.args.most) old.moment c.args.address.now (work_of old.partition) o (work_of c.open.new.self)) c.in-Ok-None.field-0-is c.in-Ok-None.ensures.opens in
    let no : true ≡ false = sym c.requires.waits ∙ h.0 in
    absurd cc

pub returns-in-Ok-Some-clause-led : goal.returns-in-Ok-Some-clause-led
unfolding here
returns-in-Ok-Some-clause-led c seen =
    let old = c.args.self.now in
    let plan = plan_of c.args.job.now in
    let from = open_batch plan c.args.address.now c.args.most (here old) in
    let h = subst (λ (o : Option Opened). Opens (asked_bounds c.args.endpoint.now c.args.most) old.moment c.args.address.now (work_of old.partition) o (work_of c.open.new.self)) c.in-Ok-Some.field-0-is c.in-Ok-Some.ensures.opens in
    asked_led plan from seen c.ask.result (opening_at c.args.address.now [] (here (record old { partition = c.open.new.self }))) old.entries
    (rest_open IsUnbroken unbroken_rests plan c.args.address.now c.args.most (here old))
    (open_some plan c.args.address.now c.args.most c.args.endpoint.now (here old) c.requires.endpoint c.requires.most c.in-Ok-Some.batch (work_of c.open.new.self) h)
    (sym (open_entries plan c.args.address.now c.args.most (here old))) c.ask.ensures.err

pub returns-in-Ok-Some-clause-asked : goal.returns-in-Ok-Some-clause-asked
unfolding here
returns-in-Ok-Some-clause-asked c =
    let old = c.args.self.now in
    let h = subst (λ (o : Option Opened). Opens (asked_bounds c.args.endpoint.now c.args.most) old.moment c.args.address.now (work_of old.partition) o (work_of c.open.new.self)) c.in-Ok-Some.field-0-is c.in-Ok-Some.ensures.opens in
    open_asked c.args.job.now.routes (asked_bounds c.args.endpoint.now c.args.most) c.args.address.now (here old) c.in-Ok-Some.batch (work_of c.open.new.self) c.ask.result h c.ask.ensures.address c.ask.ensures.url c.ask.ensures.batch

pub returns-in-Ok-Some-clause-fewer : goal.returns-in-Ok-Some-clause-fewer
unfolding here
returns-in-Ok-Some-clause-fewer c =
    let old = c.args.self.now in
    let h = subst (λ (o : Option Opened). Opens (asked_bounds c.args.endpoint.now c.args.most) old.moment c.args.address.now (work_of old.partition) o (work_of c.open.new.self)) c.in-Ok-Some.field-0-is c.in-Ok-Some.ensures.opens in
    open_few_picks (asked_bounds c.args.endpoint.now c.args.most) c.args.address.now (here old) c.in-Ok-Some.batch (work_of c.open.new.self) c.ask.result h c.ask.ensures.batch

pub returns-in-Ok-Some-clause-cells : goal.returns-in-Ok-Some-clause-cells
unfolding here
returns-in-Ok-Some-clause-cells c =
    let old = c.args.self.now in
    let h = subst (λ (o : Option Opened). Opens (asked_bounds c.args.endpoint.now c.args.most) old.moment c.args.address.now (work_of old.partition) o (work_of c.open.new.self)) c.in-Ok-Some.field-0-is c.in-Ok-Some.ensures.opens in
    on_ok_of c.ask.result (open_cells (asked_bounds c.args.endpoint.now c.args.most) c.args.address.now (here old) c.in-Ok-Some.batch (work_of c.open.new.self) h)

pub returns-in-Err-OutOfMemory-clause-led : goal.returns-in-Err-OutOfMemory-clause-led
unfolding here
returns-in-Err-OutOfMemory-clause-led c seen = opening_wants (plan_of c.args.job.now) c.args.address.now c.args.most (here c.args.self.now) seen

pub returns-in_err-try_clone-in-Err-TooLarge-clause-led : goal.returns-in_err-try_clone-in-Err-TooLarge-clause-led
unfolding here
returns-in_err-try_clone-in-Err-TooLarge-clause-led c seen =
    let p = err_from_is_err_and c.from_residual.result c.from_residual.ensures.1 in
    rw (p.1, p.2) (opening_wants (plan_of c.args.job.now) c.args.address.now c.args.most (here c.args.self.now) seen)

pub returns-in_ok-try_clone-in-Err-TooLarge-clause-led : goal.returns-in_ok-try_clone-in-Err-TooLarge-clause-led
unfolding here
returns-in_ok-try_clone-in-Err-TooLarge-clause-led c seen =
    let old = c.args.self.now in
    let h = subst (IsTooLarge (asked_bounds c.args.endpoint.now c.args.most) old.moment c.args.address.now (work_of old.partition)) c.in-Err-TooLarge.field-0-is c.in-Err-TooLarge.ensures.fault in
    opening_fails (plan_of c.args.job.now) c.args.address.now c.args.most c.args.endpoint.now (here old) seen c.requires.endpoint c.requires.most c.in_ok-try_clone-in-Err-TooLarge.field-0 c.in_ok-try_clone-in-Err-TooLarge.ensures c.in-Err-TooLarge.size c.in-Err-TooLarge.limit h
