use Rattle.std.proofs.Common.{ℕ, ◌∙◌, ap, subst}
use Rattle.sf_disk.specs.Moments.{Since, Becomes, InFile}
use Rattle.sf_disk.proofs.Onward.{file_as, file_becomes}
use Rattle.block_log.specs.Logs.{Adds, Added}
use Rattle.folder_form.specs.Folders.{job_in}
use Rattle.snapshot_files.proofs.FirstBlock.{begins, written}
use Rattle.snapshot_files.proofs.texts.write_job.Goals as goal

pub returns-in-Ok-clause-meanwhile : goal.returns-in-Ok-clause-meanwhile
returns-in-Ok-clause-meanwhile g c =
    let log = c.args.manifest.now in
    let since = subst (λ (f : ℕ). Since (g.D.Disk.moments c.args.disk.now) (g.D.Disk.moments c.append.new.disk) (InFile f (Adds log c.as_slice.result.now))) c.requires.file c.append.ensures.meanwhile in
    file_as 0 _ _ _ _ since (λ m n told adds. begins log c.args.job.now c.as_slice.result.now (ap job_in c.as_slice.ensures ∙ c.in_ok-body.ensures) (m 0) n (c.requires.is_open m told) adds)

pub returns-in-Ok-clause-written : goal.returns-in-Ok-clause-written
returns-in-Ok-clause-written g c =
    let log = c.args.manifest.now in
    let becomes = subst (λ (f : ℕ). Becomes (g.D.Disk.moments c.args.disk.now) (g.D.Disk.moments c.append.new.disk) (InFile f (Added log c.append.new.self c.as_slice.result.now))) c.requires.file c.in-Ok.ensures.appended in
    file_becomes 0 _ _ _ _ becomes (λ m n told added. written log c.args.job.now c.as_slice.result.now (ap job_in c.as_slice.ensures ∙ c.in_ok-body.ensures) c.append.new.self (m 0) n added)

pub returns-clause-meanwhile : goal.returns-clause-meanwhile
returns-clause-meanwhile g c =
    let log = c.args.manifest.now in
    let since = subst (λ (f : ℕ). Since (g.D.Disk.moments c.args.disk.now) (g.D.Disk.moments c.append.new.disk) (InFile f (Adds log c.as_slice.result.now))) c.requires.file c.append.ensures.meanwhile in
    file_as 0 _ _ _ _ since (λ m n told adds. begins log c.args.job.now c.as_slice.result.now (ap job_in c.as_slice.ensures ∙ c.in_ok-body.ensures) (m 0) n (c.requires.is_open m told) adds)
