use Rattle.std.proofs.Common.{◌≡◌, ℕ, List, Option, Some, bytes_eq, sym, ap, subst, ◌∙◌}
use Rattle.std.proofs.lemmas.Bool.{false≢true, not-true, not-false}
use Rattle.std.proofs.lemmas.Slice.Eq.{bytes_eq-Decides}
use Rattle.sf_disk.specs.Moments.{newest}
use Rattle.block_log.specs.Blocks.{Body}
use Rattle.block_log.specs.Logs.{IsOpen}
use Rattle.snapshot_files.specs.Steps.{HasText}
use Rattle.snapshot_files.proofs.FirstBlock.{begun_written, begun_before}
use Rattle.snapshot_files.proofs.texts.begin_with.Goals as goal

pub write_job-requires-clause-is_open : goal.write_job-requires-clause-is_open
write_job-requires-clause-is_open g c = λ m told_now.
    let log = c.args.manifest.now in
    let told = ap newest (sym c.first_text.ensures.same) ∙ told_now in
    let o = c.requires.is_open m told in
    subst (λ (bs : List Body). IsOpen log bs (m 0)) (subst (HasText log (g.D.Disk.moments c.args.disk.now)) c.in-None.is c.in_ok-first_text.ensures.text m told o.0 o.1) o.1

pub returns-in-None-clause-begun : goal.returns-in-None-clause-begun
returns-in-None-clause-begun g c = begun_written c.args.manifest.now c.write_job.new.manifest c.args.job.now _ _ _ c.first_text.ensures.same (subst (HasText c.args.manifest.now (g.D.Disk.moments c.args.disk.now)) c.in-None.is c.in_ok-first_text.ensures.text) c.write_job.result c.write_job.ensures.written

pub returns-then-ne-clause-refuses : goal.returns-then-ne-clause-refuses
returns-then-ne-clause-refuses g c = (
  c.in_ok-try_clone-in-Some.ensures,
  λ is. false≢true (sym (not-true (bytes_eq c.in-Some.kept c.args.job.now) (sym c.ne.ensures ∙ c.if-ne.true)) ∙ (bytes_eq-Decides c.in-Some.kept c.args.job.now).1 (sym c.kept.view_is ∙ is)),
  subst (λ (o : Option (List ℕ)). HasText c.args.manifest.now (g.D.Disk.moments c.args.disk.now) o) (c.in-Some.is ∙ ap (λ (l : List ℕ). Some l) (sym c.kept.view_is)) c.in_ok-first_text.ensures.text,
)

pub returns-else-ne-clause-begun : goal.returns-else-ne-clause-begun
returns-else-ne-clause-begun g c =
    let is : c.in-Some.kept ≡ c.args.job.now = (bytes_eq-Decides c.in-Some.kept c.args.job.now).0 (not-false (bytes_eq c.in-Some.kept c.args.job.now) (sym c.ne.ensures ∙ c.if-ne.false)) in
    begun_before c.args.manifest.now c.args.job.now _ _ c.first_text.ensures.same (subst (λ (o : Option (List ℕ)). HasText c.args.manifest.now (g.D.Disk.moments c.args.disk.now) o) (c.in-Some.is ∙ ap (λ (l : List ℕ). Some l) is) c.in_ok-first_text.ensures.text)
