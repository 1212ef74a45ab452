use Rattle.yaml_block.proofs.Utf8.{past_white_utf8}
use Rattle.yaml_block.proofs.lines.inline_on.Goals as goal

pub value_on-requires-clause-utf8 : goal.value_on-requires-clause-utf8
value_on-requires-clause-utf8 c = rw c.past_white-text.ensures (past_white_utf8 c.args.text.now c.requires.utf8)
