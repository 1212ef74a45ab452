use Rattle.yaml_block.proofs.Utf8.{quoted_utf8}
use Rattle.yaml_block.proofs.lines.quoted_value.Goals as goal

pub text_of-requires : goal.text_of-requires
text_of-requires c = (quoted_utf8 c.args.quote c.args.text.now (c.in-Some.content, c.in-Some.rest.now) c.requires.utf8 (rw c.in-Some.is at c.in_ok-rest.ensures)).0
