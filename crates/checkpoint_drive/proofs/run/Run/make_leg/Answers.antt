use Rattle.std.proofs.Common.{◌&&◌, subst, sym, ap, ◌∙◌}
use Rattle.std.proofs.lemmas.Result.{err_from_is_err_and}
use Rattle.snapshot_files.specs.Stores.{newest}
use Rattle.statefun_driver.specs.Turns.{Plan}
use Rattle.statefun_driver.specs.Work.{here, plan_of}
use Rattle.checkpoint_drive.specs.declared.run.Run.{Run}
use Rattle.checkpoint_drive.specs.Drives.{is_held}
use Rattle.checkpoint_drive.specs.Driven.{IsUnderway}
use Rattle.checkpoint_drive.specs.OneLeg.{IsClosed, IsLeftOpen}
use Rattle.checkpoint_drive.proofs.OneTurn.{fails_by, leg_closed, leg_left_open, stretch, underway_on}
use Rattle.checkpoint_drive.proofs.run.Run.make_leg.Goals as goal

pub close-requires-clause-held : goal.close-requires-clause-held
close-requires-clause-held g c =
    let run = c.args.self.now in
    let underway = c.requires.underway in
    (stretch run c.what_turns_come_to.ensures c.requires.ready.routable c.requires.ready.modest _ _ underway.0 underway.1 c.turn.new.self.progress (c.in_ok-done.ensures.turned).0).held

pub returns-in_err-close-clause-leg : goal.returns-in_err-close-clause-leg
returns-in_err-close-clause-leg g c = λ origin.
    let run = c.args.self.now in
    let turned = (c.in_ok-done.ensures.turned).0 in
    fails_by run c.close.new.self origin _ _ _ _ _ c.from_residual-in_err-close.result (err_from_is_err_and c.from_residual-in_err-close.result c.from_residual-in_err-close.ensures.1)
    (leg_left_open run origin c.turn.new.self.progress _ _ turned.0 turned.1 c.turn.ensures.turn c.is_asked-asked.result (c.is_asked-asked.ensures origin) c.requires.ready.even
    (g.D.Disk.moments c.args.disk.now) (g.D.Disk.moments c.close.new.disk) c.in_err-close.field-0.0
    (subst (λ (r : Run). IsLeftOpen r origin c.is_asked-asked.result (g.D.Disk.moments c.args.disk.now) (g.D.Disk.moments c.close.new.disk) c.in_err-close.field-0.0) c.turn.ensures.others (c.in_err-close.ensures.closes origin)))

pub returns-clause-leg : goal.returns-clause-leg
returns-clause-leg g c = λ origin.
    let run = c.args.self.now in
    let turned = (c.in_ok-done.ensures.turned).0 in
    leg_closed run origin c.turn.new.self.progress _ _ turned.0 turned.1 c.turn.ensures.turn c.is_asked-asked.result (c.is_asked-asked.ensures origin) c.requires.ready.even
    c.close.new.self _ _ _ (subst (λ (r : Run). IsClosed r c.close.new.self origin c.is_asked-asked.result (g.D.Disk.moments c.args.disk.now) (g.D.Disk.moments c.close.new.disk)) c.turn.ensures.others (c.in_ok-close.ensures.closes origin))
    (c.is_over-over.ensures ∙ (λ i. ((c.close.ensures.same.options ∙ ap (λ (r : Run). r.options) c.turn.ensures.others) i).drain && (c.in_ok-done.ensures.turned).1 i && is_held (newest c.close.new.self.storage.store) (here c.close.new.self.progress)))

pub returns-clause-underway : goal.returns-clause-underway
returns-clause-underway g c =
    let run = c.args.self.now in
    let underway = c.requires.underway in
    let now = c.close.new.self in
    let on = underway_on run c.what_turns_come_to.ensures c.requires.ready.routable c.requires.ready.modest _ _ underway.0 underway.1 c.turn.new.self.progress (c.in_ok-done.ensures.turned).0
    now c.is_asked-asked.result _ _ (subst (λ (r : Run). IsClosed r now underway.0 c.is_asked-asked.result (g.D.Disk.moments c.args.disk.now) (g.D.Disk.moments c.close.new.disk)) c.turn.ensures.others (c.in_ok-close.ensures.closes underway.0)) in
    (on.0, subst (λ (plan : Plan). IsUnderway plan on.0 (here now.progress) (g.O.Outside.seen c.turn.new.outside)) (sym (ap plan_of (c.close.ensures.same.job ∙ ap (λ (r : Run). r.job) c.turn.ensures.others))) on.1)
