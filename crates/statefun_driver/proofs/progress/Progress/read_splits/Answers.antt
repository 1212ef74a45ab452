use Rattle.std.proofs.Common.{◌∙◌, subst, ◌<◌, ◌≤◌, ℕ}
use Rattle.std.proofs.lemmas.Result.{err_from_is_err_and}
use Rattle.statefun_driver.specs.Work.{here}
use Rattle.statefun_driver.proofs.Leading.{leads_then, ends_then}
use Rattle.statefun_driver.proofs.Rows.{reads_on, reads_done}
use Rattle.statefun_driver.proofs.progress.Progress.read_splits.Goals as goal

pub returns-in_err-read_split-clause-led : goal.returns-in_err-read_split-clause-led
returns-in_err-read_split-clause-led g c =
    let inside = subst (λ (n : ℕ). c.loop-split.split < n) c.args.job.now.all c.loop-split-test.true in
    let p = err_from_is_err_and c.from_residual.result c.from_residual.ensures.1 in
    rw (p.1, p.2) (ends_then _ _ _ _ _ _ _ _ (reads_on _ _ _ c.loop-split.split (here c.loop-split.self) _ inside c.loop-split.invariant.leads) c.in_err-read_split.ensures.led)

pub loop-split-preserved : goal.loop-split-preserved
loop-split-preserved g c =
    let inside = subst (λ (n : ℕ). c.loop-split.split < n) c.args.job.now.all c.loop-split-test.true in
    record {
      leads = leads_then _ _ _ _ _ _ _ (reads_on _ _ _ c.loop-split.split (here c.loop-split.self) _ inside c.loop-split.invariant.leads) c.in_ok-read_split.ensures.led;
      counts = c.read_split.ensures.counts ∙ c.loop-split.invariant.counts;
      calls = c.read_split.ensures.calls ∙ c.loop-split.invariant.calls;
      turn = c.read_split.ensures.turn ∙ c.loop-split.invariant.turn;
    }

pub returns-clause-led : goal.returns-clause-led
returns-clause-led g c =
    let beyond = subst (λ (n : ℕ). n ≤ c.loop-split.split) c.args.job.now.all c.loop-split-test.false in
    reads_done _ _ _ c.loop-split.split (here c.loop-split.self) _ beyond c.loop-split.invariant.leads
