use Rattle.std.proofs.Common.{◌≡◌, ◌<◌, sym, ap, ◌∙◌, take, length, [], arith}
use Rattle.std.proofs.lemmas.List.{append-nil, take_at}
use Rattle.yaml_block.proofs.Lexing.{past_one}
use Rattle.yaml_block.proofs.Texts.{last_line, lines_at, before_feed, behind_feed}
use Rattle.yaml_block.proofs.documents.next_line.Goals as goal

pub returns-then-len-text-clause-lines : goal.returns-then-len-text-clause-lines
returns-then-len-text-clause-lines c =
    let whole : take c.line_len-len.result c.args.text.now ≡ c.args.text.now =
    ap (take c.line_len-len.result) (sym (append-nil c.args.text.now)) ∙ take_at c.args.text.now [] c.line_len-len.result (sym c.if-len-text.true) in
    last_line c.args.text.now (rw whole at c.line_len-len.ensures.before)

pub without_return-requires : goal.without_return-requires
without_return-requires c =
    let within : c.line_len-len.result < length c.args.text.now = omega (arith, c.line_len-len.ensures.bound, c.if-len-text.false) in
    rw c.split_at.ensures.front (before_feed c.args.text.now c.line_len-len.result within (c.line_len-len.ensures.there within) c.requires)

pub returns-clause-lines : goal.returns-clause-lines
returns-clause-lines c =
    let text = c.args.text.now in
    let len = c.line_len-len.result in
    let within : len < length text = omega (arith, c.line_len-len.ensures.bound, c.if-len-text.false) in
    rw (c.without_return.ensures.value, c.split_at.ensures.front, c.split_at-2.ensures.back, c.split_at.ensures.back, past_one text len within)
    (lines_at text len within (c.line_len-len.ensures.there within) c.line_len-len.ensures.before)

pub returns-clause-rest_utf8 : goal.returns-clause-rest_utf8
returns-clause-rest_utf8 c =
    let text = c.args.text.now in
    let len = c.line_len-len.result in
    let within : len < length text = omega (arith, c.line_len-len.ensures.bound, c.if-len-text.false) in
    rw (c.split_at-2.ensures.back, c.split_at.ensures.back, past_one text len within) (behind_feed text len within (c.line_len-len.ensures.there within) c.requires)
