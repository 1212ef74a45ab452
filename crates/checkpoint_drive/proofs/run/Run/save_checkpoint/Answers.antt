use Rattle.std.proofs.Common.{ap}
use Rattle.std.proofs.lemmas.Result.{err_from_is_err_and}
use Rattle.checkpoint_drive.specs.declared.run.Run.{Run}
use Rattle.checkpoint_drive.proofs.Saved.{save_failed, save_stands}
use Rattle.checkpoint_drive.proofs.run.Run.save_checkpoint.Goals as goal

pub returns-in_err-save-clause-saves : goal.returns-in_err-save-clause-saves
returns-in_err-save-clause-saves g c =
    save_failed c.args.self.now (record c.prepare.new.self { storage = c.save.new.self }) c.prepare.new.self.storage (ap (λ (r : Run). r.storage) c.in_ok-prepared.ensures.others) c.in_ok-prepared.prepared.mark c.in_ok-prepared.prepared.piece _ c.new-none.ensures
    c.in_ok-prepared.ensures.checkpoint _ _ c.save.ensures.meanwhile c.from_residual-in_err-save.result _
    (err_from_is_err_and c.from_residual-in_err-save.result c.from_residual-in_err-save.ensures.1) c.in_err-save.ensures.form

pub returns-clause-saves : goal.returns-clause-saves
returns-clause-saves g c =
    save_stands c.args.self.now (record c.prepare.new.self { storage = c.save.new.self }) c.prepare.new.self.storage (ap (λ (r : Run). r.storage) c.in_ok-prepared.ensures.others) c.in_ok-prepared.prepared.mark c.in_ok-prepared.prepared.piece _ c.new-none.ensures
    c.in_ok-prepared.ensures.checkpoint _ _ c.save.ensures.meanwhile c.requires.even c.in_ok-save.ensures.saved
