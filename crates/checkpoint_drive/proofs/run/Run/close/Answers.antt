use Rattle.std.proofs.Common.{Bool, false, subst, sym}
use Rattle.checkpoint_drive.specs.declared.run.Run.{Run}
use Rattle.checkpoint_drive.specs.OneLeg.{Closes, IsClosed}
use Rattle.checkpoint_drive.proofs.Closing.{closed_without}
use Rattle.checkpoint_drive.proofs.run.Run.close.Goals as goal

pub returns-then-asked-clause-closes : goal.returns-then-asked-clause-closes
returns-then-asked-clause-closes g c = λ origin.
    subst (λ (asked : Bool). Closes c.args.self.now c.close_saving.new.self origin asked (g.D.Disk.moments c.args.disk.now) (g.D.Disk.moments c.close_saving.new.disk) c.close_saving.result)
    (sym c.if-asked.true) (c.close_saving.ensures.closes origin)

pub returns-clause-closes : goal.returns-clause-closes
returns-clause-closes g c = λ origin.
    let moments = g.D.Disk.moments c.args.disk.now in
    subst (λ (asked : Bool). IsClosed c.args.self.now c.count_leg.new.self origin asked moments moments) (sym c.if-asked.false)
    (subst (λ (r : Run). IsClosed c.args.self.now r origin false moments moments) (sym c.count_leg.ensures) (closed_without c.args.self.now origin moments))
