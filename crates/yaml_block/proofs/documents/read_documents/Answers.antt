use Rattle.std.proofs.Common.{◌≡◌, take, ap, ◌∙◌, arith}
use Rattle.std.specs.Str.Lossy.{utf8_valid_len}
use Rattle.yaml_block.proofs.Utf8.{without_mark_utf8}
use Rattle.yaml_block.proofs.Joining.{read_long, read_bad, read_good}
use Rattle.yaml_block.proofs.documents.read_documents.Goals as goal

pub returns-then-bytes-gt-MOST_BYTES-clause-refused : goal.returns-then-bytes-gt-MOST_BYTES-clause-refused
returns-then-bytes-gt-MOST_BYTES-clause-refused c = rw c.whole_text.ensures (read_long c.args.bytes.now c.if-bytes-gt-MOST_BYTES.true)

pub returns-in-Err-clause-refused : goal.returns-in-Err-clause-refused
returns-in-Err-clause-refused c =
    let good : c.split_at.result.0.now ≡ take (utf8_valid_len c.args.bytes.now) c.args.bytes.now = c.split_at.ensures.front ∙ ap (λ n. take n c.args.bytes.now) (c.valid_up_to.ensures ∙ c.in-Err.ensures.valid_len) in
    rw (c.whole_text-in-Err.ensures, c.line_ends-ends.ensures.value, good) (read_bad c.args.bytes.now (omega arith) c.in-Err.ensures.cases.0)

pub trees-requires-clause-utf8 : goal.trees-requires-clause-utf8
trees-requires-clause-utf8 c = rw c.without_mark.ensures (without_mark_utf8 c.args.bytes.now c.in_default.ensures.cases.1)

pub returns-clause-trees : goal.returns-clause-trees
returns-clause-trees c = rw (read_good c.args.bytes.now (omega arith) c.in_default.ensures.cases.1) (rw c.without_mark.ensures at c.trees.ensures.trees)

pub returns-clause-refused : goal.returns-clause-refused
returns-clause-refused c = rw (read_good c.args.bytes.now (omega arith) c.in_default.ensures.cases.1) (rw c.without_mark.ensures at c.trees.ensures.refused)
