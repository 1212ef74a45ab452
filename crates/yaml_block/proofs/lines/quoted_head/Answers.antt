use Rattle.yaml_block.proofs.Utf8.{quoted_utf8, behind_colon_utf8}
use Rattle.yaml_block.proofs.lines.quoted_head.Goals as goal

pub inline_on-requires : goal.inline_on-requires
inline_on-requires c =
    let cut = quoted_utf8 c.args.quote c.args.text.now (c.in-Some.content, c.in-Some.rest.now) c.requires.utf8 (rw c.in-Some.is at c.in_ok-content.ensures) in
    record { utf8 = behind_colon_utf8 c.in-Some.rest.now c.in-Some-behind_colon.value.now cut.1 c.in-Some-behind_colon.ensures }

pub text_of-requires : goal.text_of-requires
text_of-requires c = (quoted_utf8 c.args.quote c.args.text.now (c.in-Some.content, c.in-Some.rest.now) c.requires.utf8 (rw c.in-Some.is at c.in_ok-content.ensures)).0

pub text_of-requires-then-is_over : goal.text_of-requires-then-is_over
text_of-requires-then-is_over c = (quoted_utf8 c.args.quote c.args.text.now (c.in-Some.content, c.in-Some.rest.now) c.requires.utf8 (rw c.in-Some.is at c.in_ok-content.ensures)).0
