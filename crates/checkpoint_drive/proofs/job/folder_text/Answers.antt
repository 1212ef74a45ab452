use Rattle.std.proofs.Common.{ℕ, List, ◌++◌, ◌∙◌, ap, ap₂}
use Rattle.folder_form.specs.Shapes.{partitions_in, shape_in}
use Rattle.checkpoint_drive.proofs.JobShape.{partitions_are_one, folder_shape}
use Rattle.checkpoint_drive.proofs.job.folder_text.Goals as goal

pub returns-clause-names : goal.returns-clause-names
returns-clause-names c =
    let whole = c.in_ok-append.ensures.ok ∙ ap₂ (λ (a b : List ℕ). a ++ b) c.in_ok-text.ensures (c.as_str.ensures ∙ c.in_ok-job.ensures) in
    ap partitions_in whole ∙ partitions_are_one c.args.module.now

pub returns-clause-shape : goal.returns-clause-shape
returns-clause-shape c =
    let whole = c.in_ok-append.ensures.ok ∙ ap₂ (λ (a b : List ℕ). a ++ b) c.in_ok-text.ensures (c.as_str.ensures ∙ c.in_ok-job.ensures) in
    ap shape_in whole ∙ folder_shape c.args.module.now c.requires.splits
