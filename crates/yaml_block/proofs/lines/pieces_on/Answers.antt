use Rattle.std.proofs.Common.{sym, ◌∙◌, rules}
use Rattle.yaml_block.proofs.Utf8.{utf8_tail, white_small, item_small}
use Rattle.yaml_block.proofs.Lexing.{white_passed, item_put, head_put}
use Rattle.yaml_block.proofs.lines.pieces_on.Goals as goal

pub loop-first-preserved-then-is_white : goal.loop-first-preserved-then-is_white
loop-first-preserved-then-is_white c =
    let white = sym c.is_white.ensures ∙ c.if-is_white.true in
    record {
      bound = search rules;
      utf8 = utf8_tail c.in-Some.first c.in-Some.after.now (white_small c.in-Some.first white) (rw c.in-Some.ensures at c.loop-first.invariant.utf8);
      so_far = white_passed c.args.line c.loop-first.column c.loop-first.rest.now c.in-Some.after.now c.in-Some.first c.loop-first.pieces _ c.in-Some.ensures c.loop-first.invariant.so_far white;
    }

pub loop-first-preserved : goal.loop-first-preserved
loop-first-preserved c =
    let item = sym c.is_item.ensures ∙ c.if-is_item.true in
    record {
      bound = search rules;
      utf8 = utf8_tail c.in-Some.first c.in-Some.after.now (item_small c.in-Some.first c.in-Some.after.now item) (rw c.in-Some.ensures at c.loop-first.invariant.utf8);
      so_far = rw c.in_ok-push.ensures.ok (item_put c.args.line c.loop-first.column c.loop-first.rest.now c.in-Some.after.now c.in-Some.first c.loop-first.pieces _ c.in-Some.ensures c.loop-first.invariant.so_far (sym c.is_white.ensures ∙ c.if-is_white.false) c.if-first-eq35.false item);
    }

pub returns-in-Some : goal.returns-in-Some
returns-in-Some c =
    rw c.in_ok-push-2.ensures.ok (head_put c.args.line c.loop-first.column c.loop-first.rest.now c.in-Some.after.now c.in-Some.first c.loop-first.pieces _ c.in-Some.ensures c.loop-first.invariant.so_far c.in_ok-head.head (sym c.is_white.ensures ∙ c.if-is_white.false) c.if-first-eq35.false (sym c.is_item.ensures ∙ c.if-is_item.false) c.in_ok-head.ensures)
