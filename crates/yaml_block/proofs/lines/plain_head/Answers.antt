use Rattle.std.proofs.Common.{ap, ◌∙◌, drop, arith}
use Rattle.yaml_block.specs.Scalars.{plain}
use Rattle.yaml_block.specs.Lines.{inline_on}
use Rattle.yaml_block.proofs.Utf8.{plain_utf8, key_utf8}
use Rattle.yaml_block.proofs.Lexing.{entry_there, past_one}
use Rattle.yaml_block.proofs.lines.plain_head.Goals as goal

pub copied-requires : goal.copied-requires
copied-requires c = rw c.plain.ensures (plain_utf8 c.args.text.now c.requires.utf8)

pub inline_on-requires : goal.inline_on-requires
inline_on-requires c =
    let cut = key_utf8 c.args.text.now c.in-Some-colon_in.at c.requires.utf8 c.in-Some-colon_in.ensures.value in
    record { utf8 = rw (c.split_at-2.ensures.back, c.split_at.ensures.back, past_one c.args.text.now c.in-Some-colon_in.at c.in-Some-colon_in.ensures.bound) cut.1 }

pub copied-requires-2 : goal.copied-requires-2
copied-requires-2 c =
    let cut = key_utf8 c.args.text.now c.in-Some-colon_in.at c.requires.utf8 c.in-Some-colon_in.ensures.value in
    rw (c.plain-2.ensures, c.split_at.ensures.front) (plain_utf8 _ cut.0)

pub returns : goal.returns
returns c =
    entry_there c.args.text.now c.in-Some-colon_in.at c.in_ok-copied-2.field-0 c.in_ok-value.value _ _ _ c.in_default.ensures c.in-Some-colon_in.ensures.value (omega arith) c.in-Some-colon_in.ensures.bound
    (c.in_ok-copied-2.ensures ∙ c.plain-2.ensures ∙ ap plain c.split_at.ensures.front)
    (c.in_ok-value.ensures ∙ ap inline_on (c.split_at-2.ensures.back ∙ ap (drop 1) c.split_at.ensures.back ∙ past_one c.args.text.now c.in-Some-colon_in.at c.in-Some-colon_in.ensures.bound))
