use Rattle.std.proofs.Common.{length}
use Rattle.yaml_block.proofs.Joining.{closed_tree, closed_refusal, some_pieces}
use Rattle.yaml_block.proofs.documents.close.Goals as goal

pub returns-in_ok-push-in-Ok-clause-ok : goal.returns-in_ok-push-in-Ok-clause-ok
returns-in_ok-push-in-Ok-clause-ok c =
    rw c.in_ok-push-in-Ok.ensures.ok (closed_tree c.args.nodes.now c.args.pieces.now c.in-Ok.node (some_pieces (length c.args.pieces.now) c.is_empty.result c.is_empty.ensures c.if-is_empty.false) c.in-Ok.ensures)

pub returns-in-Err-Refused-clause-refused : goal.returns-in-Err-Refused-clause-refused
returns-in-Err-Refused-clause-refused c =
    rw c.len.ensures (closed_refusal c.args.nodes.now c.args.pieces.now c.in-Err-Refused.refusal (some_pieces (length c.args.pieces.now) c.is_empty.result c.is_empty.ensures c.if-is_empty.false) (rw c.in-Err-Refused.field-0-is at c.in-Err-Refused.ensures))
