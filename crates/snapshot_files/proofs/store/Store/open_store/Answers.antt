use Rattle.std.proofs.Common.{ℕ, List, sym, subst}
use Rattle.std.proofs.lemmas.Result.{err_from_is_err_and}
use Rattle.sf_disk.specs.Moments.{WhereTold}
use Rattle.sf_disk.proofs.Onward.{since_as}
use Rattle.block_log.proofs.Opening.{since_to}
use Rattle.folder_form.specs.Folders.{Files}
use Rattle.snapshot_files.specs.Steps.{IsFolder}
use Rattle.snapshot_files.proofs.Owned.{shape_told}
use Rattle.snapshot_files.proofs.WholeFolder.{opens_text, log_refused, text_refused, job_since, folder_opened, job_now, store_opened, store_refused, store_partitions}
use Rattle.snapshot_files.proofs.store.Store.open_store.Goals as goal

pub returns-in_err-logs-clause-meanwhile : goal.returns-in_err-logs-clause-meanwhile
returns-in_err-logs-clause-meanwhile g c = since_as _ _ _ _ c.open_logs.ensures.meanwhile (λ m n told o. opens_text c.args.job.now m n o)

pub returns-in_err-logs-clause-refuses : goal.returns-in_err-logs-clause-refuses
returns-in_err-logs-clause-refuses g c =
    let p = err_from_is_err_and c.from_residual.result c.from_residual.ensures.1 in
    rw (p.1, p.2) (log_refused c.args.job.now _ _ c.in_err-logs.ensures.refuses)

pub returns-in_err-begin_with-clause-meanwhile : goal.returns-in_err-begin_with-clause-meanwhile
returns-in_err-begin_with-clause-meanwhile g c = job_since _ _ _ c.in_ok-logs.logs.manifest c.begin_with.new.manifest c.in_ok-logs.logs.pieces.items c.args.job.now c.open_logs.ensures.meanwhile c.in_ok-logs.ensures.opened c.begin_with.ensures.meanwhile

pub returns-in_err-begin_with-clause-refuses : goal.returns-in_err-begin_with-clause-refuses
returns-in_err-begin_with-clause-refuses g c =
    let p = err_from_is_err_and c.from_residual-in_err-begin_with.result c.from_residual-in_err-begin_with.ensures.1 in
    rw (p.1, p.2) (text_refused _ _ c.in_ok-logs.logs.manifest c.in_ok-logs.logs.pieces.items c.in_ok-logs.ensures.opened c.args.job.now _ c.in_err-begin_with.ensures.refuses)

pub returns-in_err-try_clone-clause-meanwhile : goal.returns-in_err-try_clone-clause-meanwhile
returns-in_err-try_clone-clause-meanwhile g c = job_since _ _ _ c.in_ok-logs.logs.manifest c.begin_with.new.manifest c.in_ok-logs.logs.pieces.items c.args.job.now c.open_logs.ensures.meanwhile c.in_ok-logs.ensures.opened c.begin_with.ensures.meanwhile

pub read-requires-clause-is_open : goal.read-requires-clause-is_open
read-requires-clause-is_open g c =
    let old = c.in_ok-logs.logs.manifest in
    let manifest = c.begin_with.new.manifest in
    let pieces = c.in_ok-logs.logs.pieces.items in
    let since = job_since _ _ _ old manifest pieces c.args.job.now c.open_logs.ensures.meanwhile c.in_ok-logs.ensures.opened c.begin_with.ensures.meanwhile in
    let opened = folder_opened _ _ _ old manifest pieces c.args.job.now c.open_logs.ensures.meanwhile c.in_ok-logs.ensures.opened c.in_ok-begin_with.ensures.begun in
    subst (λ (t : List ℕ). WhereTold (g.D.Disk.moments c.begin_with.new.disk) (λ now. (files : Files) × IsFolder manifest pieces t files now)) (sym c.in_ok-try_clone.ensures) (job_now _ _ manifest pieces c.args.job.now since opened)

pub returns-clause-meanwhile : goal.returns-clause-meanwhile
returns-clause-meanwhile g c = since_to _ _ _ _ c.read.ensures.same (job_since _ _ _ c.in_ok-logs.logs.manifest c.begin_with.new.manifest c.in_ok-logs.logs.pieces.items c.args.job.now c.open_logs.ensures.meanwhile c.in_ok-logs.ensures.opened c.begin_with.ensures.meanwhile)

pub returns-clause-opened : goal.returns-clause-opened
returns-clause-opened g c =
    let old = c.in_ok-logs.logs.manifest in
    let manifest = c.begin_with.new.manifest in
    let pieces = c.in_ok-logs.logs.pieces.items in
    let opened = folder_opened _ _ _ old manifest pieces c.args.job.now c.open_logs.ensures.meanwhile c.in_ok-logs.ensures.opened c.in_ok-begin_with.ensures.begun in
    store_opened _ _ _ c.read.ensures.same manifest pieces c.args.job.now c.in_ok-try_clone.field-0 c.in_ok-try_clone.ensures c.args.partitions c.requires.names opened c.read.result c.read.ensures.text c.read.ensures.read

pub returns-clause-partitions : goal.returns-clause-partitions
returns-clause-partitions g c = store_partitions (g.D.Disk.moments c.args.disk.now) _ _ c.read.ensures.same c.begin_with.new.manifest c.in_ok-logs.logs.pieces.items c.args.job.now c.in_ok-try_clone.field-0 c.in_ok-try_clone.ensures c.args.partitions c.requires.names c.read.result c.read.ensures.shape

pub returns-clause-refuses : goal.returns-clause-refuses
returns-clause-refuses g c =
    let old = c.in_ok-logs.logs.manifest in
    let manifest = c.begin_with.new.manifest in
    let pieces = c.in_ok-logs.logs.pieces.items in
    let opened = folder_opened _ _ _ old manifest pieces c.args.job.now c.open_logs.ensures.meanwhile c.in_ok-logs.ensures.opened c.in_ok-begin_with.ensures.begun in
    store_refused _ _ _ c.read.ensures.same manifest pieces c.args.job.now c.in_ok-try_clone.field-0 c.in_ok-try_clone.ensures c.args.partitions c.requires.names opened c.read.result c.read.ensures.refuses

pub returns-clause-shape : goal.returns-clause-shape
returns-clause-shape g c = shape_told c.args.job.now c.in_ok-try_clone.field-0 c.in_ok-try_clone.ensures c.read.result c.read.ensures.shape
