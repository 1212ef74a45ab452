use Rattle.std.proofs.Common.{List, subst, ◌∙◌}
use Rattle.std.proofs.lemmas.Result.{err_from_is_err_and}
use Rattle.sf_disk.specs.Moments.{Moment}
use Rattle.sf_disk.proofs.Onward.{still_told}
use Rattle.block_log.proofs.Opening.{becomes_to}
use Rattle.snapshot_files.specs.Steps.{HasText, IsRead}
use Rattle.snapshot_files.proofs.WholeFolder.{is_new, opened_kept, refused_job, refused_folder, folder_now}
use Rattle.snapshot_files.proofs.store.Store.open_kept.Goals as goal

pub returns-in_err-first_text-clause-refuses : goal.returns-in_err-first_text-clause-refuses
returns-in_err-first_text-clause-refuses g c =
    let p = err_from_is_err_and c.from_residual-in_err-first_text.result c.from_residual-in_err-first_text.ensures.1 in
    rw (p.1, p.2) (refused_job _ _ c.in_ok-logs.logs.manifest c.in_ok-logs.logs.pieces.items c.in_ok-logs.ensures.opened _ c.in_err-first_text.ensures.refuses)

pub read-requires-clause-is_open : goal.read-requires-clause-is_open
read-requires-clause-is_open g c =
    let logs = c.in_ok-logs.logs in
    let has = subst (HasText logs.manifest (g.D.Disk.moments c.open_logs.new.disk)) c.in-Some.is c.in_ok-first_text.ensures.text in
    still_told _ _ _ c.first_text.ensures.same (folder_now _ _ logs.manifest logs.pieces.items c.in-Some.text c.open_logs.ensures.meanwhile c.in_ok-logs.ensures.opened has)

pub returns-in_err-read-in-Some-clause-refuses : goal.returns-in_err-read-in-Some-clause-refuses
returns-in_err-read-in-Some-clause-refuses g c =
    let logs = c.in_ok-logs.logs in
    let has = subst (HasText logs.manifest (g.D.Disk.moments c.open_logs.new.disk)) c.in-Some.is c.in_ok-first_text.ensures.text in
    let p = err_from_is_err_and c.from_residual-in_err-read-in-Some.result c.from_residual-in_err-read-in-Some.ensures.1 in
    rw (p.1, p.2) (refused_folder _ _ _ c.first_text.ensures.same logs.manifest logs.pieces.items c.in_ok-logs.ensures.opened c.in-Some.text has _ c.in_err-read-in-Some.ensures.refuses)

pub returns-in-None-clause-opened : goal.returns-in-None-clause-opened
returns-in-None-clause-opened g c =
    let logs = c.in_ok-logs.logs in
    let has = subst (HasText logs.manifest (g.D.Disk.moments c.open_logs.new.disk)) c.in-None.is c.in_ok-first_text.ensures.text in
    becomes_to _ _ _ _ c.first_text.ensures.same (is_new _ _ logs.manifest logs.pieces.items c.in_ok-logs.ensures.opened has)

pub returns-in_ok-read-in-Some-clause-opened : goal.returns-in_ok-read-in-Some-clause-opened
returns-in_ok-read-in-Some-clause-opened g c =
    let logs = c.in_ok-logs.logs in
    let has = subst (HasText logs.manifest (g.D.Disk.moments c.open_logs.new.disk)) c.in-Some.is c.in_ok-first_text.ensures.text in
    let read = subst (λ (l : List Moment). IsRead logs.manifest logs.pieces.items c.in-Some.text l c.in_ok-read-in-Some.field-0) c.first_text.ensures.same c.in_ok-read-in-Some.ensures.read in
    becomes_to _ _ _ _ (c.read.ensures.same ∙ c.first_text.ensures.same) (opened_kept _ _ logs.manifest logs.pieces.items c.in_ok-logs.ensures.opened c.in-Some.text c.in_ok-read-in-Some.field-0 has read)
