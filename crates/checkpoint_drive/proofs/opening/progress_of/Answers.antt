use Rattle.std.proofs.Common.{◌∙◌}
use Rattle.std.proofs.lemmas.Result.{IfOk-weaker}
use Rattle.checkpoint_drive.proofs.Openings.{resumed_at}
use Rattle.checkpoint_drive.proofs.opening.progress_of.Goals as goal

pub returns-clause-here : goal.returns-clause-here
returns-clause-here c = IfOk-weaker c.resume.result _ _ (λ progress is. is ∙ resumed_at c.args.leg c.args.start _ _ c.as_slice.ensures c.in_ok-partition.ensures) c.resume.ensures.here
