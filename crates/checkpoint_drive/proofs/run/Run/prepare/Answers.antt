use Rattle.std.proofs.Common.{subst}
use Rattle.partition_core.specs.Work.{Work}
use Rattle.partition_core.specs.KeptWork.{IsKeptOf}
use Rattle.statefun_driver.specs.Work.{here}
use Rattle.checkpoint_drive.proofs.OnePiece.{is_part, taking_all}
use Rattle.checkpoint_drive.proofs.run.Run.prepare.Goals as goal

pub returns-clause-part : goal.returns-clause-part
returns-clause-part c =
    let at = here c.args.self.now.progress in
    let kept = c.in_ok-kept.kept in
    let is_kept = subst (λ (work : Work). IsKeptOf work kept) c.partition.ensures c.in_ok-kept.ensures in
    is_part at.work at.moment kept c.requires.held is_kept at.entries c.in_ok-cut.cut c.in_ok-cut.ensures.cut _ c.moment-moment.ensures

pub returns-clause-takes : goal.returns-clause-takes
returns-clause-takes c = taking_all (here c.args.self.now.progress).entries c.in_ok-cut.cut.takes (c.in_ok-cut.ensures.cut).takes
