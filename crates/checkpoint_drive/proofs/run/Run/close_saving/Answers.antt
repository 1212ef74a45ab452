use Rattle.std.proofs.Common.{true, subst, sym}
use Rattle.std.proofs.lemmas.Result.{err_from_is_err_and}
use Rattle.checkpoint_storage.specs.Folders.{IsKnown}
use Rattle.checkpoint_drive.specs.declared.run.Run.{Run}
use Rattle.checkpoint_drive.specs.OneLeg.{IsClosed}
use Rattle.checkpoint_drive.proofs.Closing.{closed_with, closes_not, known_with}
use Rattle.checkpoint_drive.proofs.run.Run.close_saving.Goals as goal

pub returns-in_err-save_checkpoint-clause-closes : goal.returns-in_err-save_checkpoint-clause-closes
returns-in_err-save_checkpoint-clause-closes g c = λ origin.
    closes_not c.args.self.now c.save_checkpoint.new.self c.save_checkpoint.new.self origin _ _ c.from_residual.result _
    (err_from_is_err_and c.from_residual.result c.from_residual.ensures.1) c.in_err-save_checkpoint.ensures.saves

pub returns-clause-closes : goal.returns-clause-closes
returns-clause-closes g c = λ origin.
    let ok = c.in_ok-save_checkpoint.ensures in
    subst (λ (r : Run). IsClosed c.args.self.now r origin true (g.D.Disk.moments c.args.disk.now) (g.D.Disk.moments c.save_checkpoint.new.disk)) (sym c.count_leg.ensures)
    (closed_with c.args.self.now c.save_checkpoint.new.self (g.D.Disk.moments c.args.disk.now) (g.D.Disk.moments c.save_checkpoint.new.disk) c.requires.ready.rests ok.beside ok.here ok.newest origin ok.saves)

pub returns-clause-is_known : goal.returns-clause-is_known
returns-clause-is_known g c =
    let ok = c.in_ok-save_checkpoint.ensures in
    subst (λ (r : Run). IsKnown r.storage (g.D.Disk.moments c.save_checkpoint.new.disk)) (sym c.count_leg.ensures)
    (known_with c.args.self.now c.save_checkpoint.new.self (g.D.Disk.moments c.args.disk.now) (g.D.Disk.moments c.save_checkpoint.new.disk) c.requires.ready.rests ok.beside ok.here ok.newest c.requires.is_known ok.saves)
