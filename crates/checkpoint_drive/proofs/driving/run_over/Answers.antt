use Rattle.std.proofs.Common.{ℕ, List, refl, subst, ◌∙◌, ap}
use Rattle.statefun_driver.specs.Work.{plan_of}
use Rattle.checkpoint_drive.specs.Begins.{rest_of}
use Rattle.checkpoint_drive.specs.Jobs.{folder_text}
use Rattle.checkpoint_drive.specs.Driven.{IsDriven}
use Rattle.checkpoint_drive.specs.declared.end.DriveEnd.TheVariants.{Refused}
use Rattle.checkpoint_drive.proofs.Whole.{objects_same, origin, ran, refused, underway_at_first}
use Rattle.checkpoint_drive.proofs.driving.run_over.Goals as goal

pub make_legs-requires-clause-underway : goal.make_legs-requires-clause-underway
make_legs-requires-clause-underway g c = (
  origin c.args.routes c.args.options c.in-Ok.text _ _ c.in-Ok-open.run' c.in-Ok-open.ensures.begun c.open.ensures.meanwhile,
  underway_at_first c.args.routes c.args.options c.in-Ok.text _ _ c.in-Ok-open.run' c.in-Ok-open.ensures.begun c.open.ensures.meanwhile (g.O.Outside.seen c.args.outside.now),
)

pub returns-in-Ok-open-clause-driven : goal.returns-in-Ok-open-clause-driven
returns-in-Ok-open-clause-driven g c =
    let start = origin c.args.routes c.args.options c.in-Ok.text _ _ c.in-Ok-open.run' c.in-Ok-open.ensures.begun c.open.ensures.meanwhile in
    subst (λ (t : List ℕ). IsDriven c.args.routes c.args.options t (g.D.Disk.moments c.args.disk.now) (g.D.Disk.moments c.make_legs.new.disk)
    (g.O.Outside.seen c.args.outside.now) (g.O.Outside.seen c.make_legs.new.outside) c.make_legs.result) (c.in-Ok.ensures.text ∙ ap folder_text c.module.ensures.value)
    (ran c.args.routes c.args.options c.in-Ok.text _ _ c.in-Ok-open.run' c.in-Ok-open.ensures.begun c.open.ensures.meanwhile c.make_legs.new.self _ _ _ c.make_legs.result c.make_legs.ensures.same.text (c.make_legs.ensures.legs start))

pub returns-in-Ok-open-clause-objects : goal.returns-in-Ok-open-clause-objects
returns-in-Ok-open-clause-objects g c =
    let start = origin c.args.routes c.args.options c.in-Ok.text _ _ c.in-Ok-open.run' c.in-Ok-open.ensures.begun c.open.ensures.meanwhile in
    objects_same (plan_of c.in-Ok-open.run'.job) c.in-Ok-open.run'.options c.in-Ok-open.run'.most (rest_of start c.in-Ok-open.run') _ _ c.make_legs.result (c.make_legs.ensures.legs start).comes

pub returns-clause-driven : goal.returns-clause-driven
returns-clause-driven g c =
    subst (λ (t : List ℕ). IsDriven c.args.routes c.args.options t (g.D.Disk.moments c.args.disk.now) (g.D.Disk.moments c.open.new.disk)
    (g.O.Outside.seen c.args.outside.now) (g.O.Outside.seen c.args.outside.now) (Refused c.in-Err.fault)) (c.in-Ok.ensures.text ∙ ap folder_text c.module.ensures.value)
    (refused c.args.routes c.args.options c.in-Ok.text _ _ _ _ c.in-Err.fault c.open.ensures.meanwhile refl c.in-Err.ensures.refuses)
