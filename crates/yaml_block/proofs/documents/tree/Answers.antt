use Rattle.std.proofs.Common.{Ok, ap, ◌∙◌}
use Rattle.std.proofs.lemmas.Result.{err_from_is_err_and}
use Rattle.yaml_block.proofs.Reading.{◌andThen◌, fails_then, fails_as}
use Rattle.yaml_block.proofs.Joining.{whole_document}
use Rattle.yaml_block.proofs.documents.tree.Goals as goal

pub returns-in_err-node : goal.returns-in_err-node
returns-in_err-node c =
    let p = err_from_is_err_and c.from_residual.result c.from_residual.ensures.1 in
    let e = c.in_err-node.field-0.0 in
    rw (p.1, p.2) (fails_as e _ _ (whole_document c.args.pieces.now) (fails_then e _ _ c.in_err-node.ensures))

pub returns : goal.returns
returns c = whole_document c.args.pieces.now ∙ ap (λ w. w andThen (λ x. Ok x.0)) c.in_ok-node.ensures
