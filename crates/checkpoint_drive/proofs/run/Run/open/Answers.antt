use Rattle.std.proofs.Common.{rules, ◌≤◌, ◌<◌, refl, subst, arith}
use Rattle.std.specs.Prelude.{◌^◌, IsTrue}
use Rattle.std.proofs.lemmas.Result.{err_from_is_err_and}
use Rattle.address_routing.specs.declared.module.Module.{Module}
use Rattle.address_routing.specs.Routing.{is_routable}
use Rattle.snapshot_files.specs.Stores.{newest}
use Rattle.checkpoint_drive.proofs.Openings.{opened_leaves, run_leaves, refused_begin, cells_kept, is_begun, first_ready}
use Rattle.checkpoint_drive.proofs.run.Run.open.Goals as goal

pub returns-in_err-opened-clause-meanwhile : goal.returns-in_err-opened-clause-meanwhile
returns-in_err-opened-clause-meanwhile g c = opened_leaves c.args.routes c.args.text.now c.args.options _ _ c.read.ensures.meanwhile

pub returns-in_err-most-clause-meanwhile : goal.returns-in_err-most-clause-meanwhile
returns-in_err-most-clause-meanwhile g c = run_leaves c.args.routes c.args.text.now c.args.options _ _ c.read.ensures.meanwhile c.in_ok-opened.opened.storage c.in_ok-opened.opened.start c.in_ok-opened.ensures.has_read _ c.begin.ensures.meanwhile

pub returns-in_err-most-clause-refuses : goal.returns-in_err-most-clause-refuses
returns-in_err-most-clause-refuses g c =
    let p = err_from_is_err_and c.from_residual-in_err-most.result c.from_residual-in_err-most.ensures.1 in
    rw (p.1, p.2) (refused_begin c.args.routes c.args.text.now c.args.options (g.D.Disk.moments c.args.disk.now) _ c.read.ensures.meanwhile c.in_ok-opened.opened.storage c.in_ok-opened.opened.start c.in_ok-opened.ensures.has_read _ c.in_err-most.ensures.refuses)

pub progress_of-requires-clause-cells : goal.progress_of-requires-clause-cells
progress_of-requires-clause-cells g c = cells_kept c.args.routes c.args.text.now c.args.options _ _ c.read.ensures.meanwhile c.in_ok-opened.opened.storage c.in_ok-opened.opened.start c.in_ok-opened.ensures.has_read

pub returns-in_err-progress-clause-meanwhile : goal.returns-in_err-progress-clause-meanwhile
returns-in_err-progress-clause-meanwhile g c = run_leaves c.args.routes c.args.text.now c.args.options _ _ c.read.ensures.meanwhile c.in_ok-opened.opened.storage c.in_ok-opened.opened.start c.in_ok-opened.ensures.has_read _ c.begin.ensures.meanwhile

pub returns-clause-meanwhile : goal.returns-clause-meanwhile
returns-clause-meanwhile g c = run_leaves c.args.routes c.args.text.now c.args.options _ _ c.read.ensures.meanwhile c.in_ok-opened.opened.storage c.in_ok-opened.opened.start c.in_ok-opened.ensures.has_read _ c.begin.ensures.meanwhile

pub returns-clause-begun : goal.returns-clause-begun
returns-clause-begun g c =
    let storage = c.in_ok-opened.opened.storage in
    let start = c.in_ok-opened.opened.start in
    let has = c.in_ok-opened.ensures.has_read in
    let stored = c.stored_leg-stored.result in
    let small : c.stored_leg-stored.result < 2 ^ 64 = search rules in
    let numbered : newest c.in_ok-opened.opened.storage.store ≤ c.stored_leg-stored.result = omega (arith, c.newest.ensures.newest, c.newest.ensures.order, c.stored_leg-stored.ensures) in
    let routable : IsTrue (is_routable c.args.routes) = subst (λ (r : Module). IsTrue (is_routable r)) c.routes.view_is c.routes.invariant.0 in
    let counted = c.in_ok-progress.ensures.splits in
    let ready =
    first_ready c.args.routes c.args.options storage start _ stored c.in_ok-progress.ensures.here small c.stored_leg-stored.ensures numbered c.in_ok-most.ensures.most refl
    c.driven-job.ensures.rests c.driven-job.ensures.turns c.driven-job.ensures.routes routable c.requires.modest counted
    has.shape c.in_ok-most.ensures.shape c.in_ok-most.ensures.usable c.in_ok-most.ensures.open c.in_ok-most.ensures.even c.in_ok-most.ensures.newest c.requires.every in
    is_begun c.args.routes c.args.text.now c.args.options _ _ c.read.ensures.meanwhile storage start has _ _ stored c.stored_leg-stored.ensures c.in_ok-most.ensures.begun
    ready c.in_ok-progress.ensures.here c.in_ok-most.ensures.reached c.driven-job.ensures.routes refl c.in_ok-most.ensures.most refl refl c.in_ok-most.ensures.text
