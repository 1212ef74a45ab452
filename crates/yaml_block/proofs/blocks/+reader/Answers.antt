use Rattle.std.proofs.Common.{◌+◌, [], Ok, sym, ap, ◌∙◌}
use Rattle.std.proofs.lemmas.Result.{err_from_is_err_and}
use Rattle.yaml_block.specs.declared.piece.Head.TheVariants as head
use Rattle.yaml_block.specs.Layout.{below}
use Rattle.yaml_block.specs.Trees.{block_of, scalar, sequence, mapping, items, pairs, pair}
use Rattle.yaml_block.specs.Steps.{read_as, read_block, read_nothing}
use Rattle.yaml_block.proofs.Reading.{◌andThen◌, block_none, block_misfit, block_items, block_pairs, block_scalar, inline_is, value_block, value_scalar, value_refused, fails_then, fails_as, fails_by, read_none, read_misfit, read_repeated, items_more, pairs_more, loop_stops, loop_ends, loop_fails, loop_goes, block_shorter, value_shorter, is_item, refused_misfit}
use Rattle.yaml_block.proofs.blocks.+reader.Goals as goal

-- ---- a block

pub block-returns-in_default : goal.block-returns-in_default
block-returns-in_default t c = rw (c.scalar.ensures, c.new.ensures) (block_none c.args.level c.args.line c.args.bound c.args.pieces.now c.in_default.ensures)

pub block-returns-in_err-items-in-Item : goal.block-returns-in_err-items-in-Item
block-returns-in_err-items-in-Item t c =
    let p = err_from_is_err_and c.from_residual.result c.from_residual.ensures.1 in
    let e = c.in_err-items-in-Item.field-0.0 in
    rw (p.1, p.2) (fails_as e _ _ (block_items c.args.level c.args.bound c.args.pieces.now c.in-Some.first.now c.in-Some.after.now c.in-Some.ensures c.args.line c.in-Item.is)
    (fails_then e _ _ (rw c.block-home.ensures at c.in_err-items-in-Item.ensures)))

pub block-returns-in_err-pairs-in-Entry : goal.block-returns-in_err-pairs-in-Entry
block-returns-in_err-pairs-in-Entry t c =
    let p = err_from_is_err_and c.from_residual-in_err-pairs-in-Entry.result c.from_residual-in_err-pairs-in-Entry.ensures.1 in
    let e = c.in_err-pairs-in-Entry.field-0.0 in
    rw (p.1, p.2) (fails_as e _ _ (block_pairs c.args.level c.args.bound c.args.pieces.now c.in-Some.first.now c.in-Some.after.now c.in-Some.ensures c.args.line _ _ c.in-Entry.is)
    (fails_then e _ _ (rw c.block-home.ensures at c.in_err-pairs-in-Entry.ensures)))

pub block-returns-in-Some-misfit : goal.block-returns-in-Some-misfit
block-returns-in-Some-misfit t c =
    fails_by _ _ _ c.refused.ensures (block_misfit c.args.level c.args.bound c.args.pieces.now c.in-Some.first.now c.in-Some.after.now c.in-Some.ensures c.args.line c.in-Some-misfit.kind (sym (rw c.block-home.ensures at c.in-Some-misfit.ensures)))

pub block-returns-in-Refused : goal.block-returns-in-Refused
block-returns-in-Refused t c =
    fails_by _ _ _ c.refused-in-Refused.ensures (block_misfit c.args.level c.args.bound c.args.pieces.now c.in-Some.first.now c.in-Some.after.now c.in-Some.ensures c.args.line c.in-Refused.kind (refused_misfit c.args.level (block_of c.in-Some.first.now) c.in-Some.first.now c.in-Refused.kind c.in-Refused.is))

pub block-returns-in_ok-items-in-Item : goal.block-returns-in_ok-items-in-Item
block-returns-in_ok-items-in-Item t c =
    block_items c.args.level c.args.bound c.args.pieces.now c.in-Some.first.now c.in-Some.after.now c.in-Some.ensures c.args.line c.in-Item.is
    ∙ ap (λ w. w andThen (λ x. Ok (sequence c.in-Some.first.now.line x.0, x.1))) (rw c.block-home.ensures at c.in_ok-items-in-Item.ensures)

pub block-returns-in_ok-pairs-in-Entry : goal.block-returns-in_ok-pairs-in-Entry
block-returns-in_ok-pairs-in-Entry t c =
    block_pairs c.args.level c.args.bound c.args.pieces.now c.in-Some.first.now c.in-Some.after.now c.in-Some.ensures c.args.line _ _ c.in-Entry.is
    ∙ ap (λ w. w andThen (λ x. Ok (mapping c.in-Some.first.now.line x.0, x.1))) (rw c.block-home.ensures at c.in_ok-pairs-in-Entry.ensures)

pub block-returns-in_err-nothing-in-Scalar : goal.block-returns-in_err-nothing-in-Scalar
block-returns-in_err-nothing-in-Scalar t c =
    let r = c.from_residual-in_err-nothing-in-Scalar in
    let p = err_from_is_err_and r.result r.ensures.1 in
    let e = c.in_err-nothing-in-Scalar.field-0.0 in
    rw (p.1, p.2) (fails_as e _ _ (block_scalar c.args.level c.args.bound c.args.pieces.now c.in-Some.first.now c.in-Some.after.now c.in-Some.ensures c.args.line _ c.in-Scalar.is (sym (rw c.block-home.ensures at c.in_default-misfit.ensures)))
    (fails_then e _ _ (rw c.below.ensures at c.in_err-nothing-in-Scalar.ensures)))

pub block-returns-in_err-nothing-in-Scalar-2 : goal.block-returns-in_err-nothing-in-Scalar-2
block-returns-in_err-nothing-in-Scalar-2 t c =
    let r = c.from_residual-in_err-nothing-in-Scalar-2 in
    let p = err_from_is_err_and r.result r.ensures.1 in
    let e = c.in_err-nothing-in-Scalar-2.field-0.0 in
    rw (p.1, p.2) (fails_as e _ _ (block_scalar c.args.level c.args.bound c.args.pieces.now c.in-Some.first.now c.in-Some.after.now c.in-Some.ensures c.args.line _ c.in-Scalar.is (sym (rw c.block-home.ensures at c.in_default-misfit.ensures)))
    (fails_as e _ _ (ap (λ w. w andThen (λ _. (read_nothing c.args.bound c.in-Some.after.now andThen (λ _. Ok (scalar c.in-Some.first.now.line c.in-Scalar.text, c.in-Some.after.now))))) (rw c.below.ensures at c.in_ok-nothing-in-Scalar.ensures))
    (fails_then e _ _ c.in_err-nothing-in-Scalar-2.ensures)))

pub block-returns-in_ok-try_clone-in-Scalar : goal.block-returns-in_ok-try_clone-in-Scalar
block-returns-in_ok-try_clone-in-Scalar t c =
    rw (c.scalar-in-Scalar.ensures, c.in_ok-try_clone-in-Scalar.ensures) (
    block_scalar c.args.level c.args.bound c.args.pieces.now c.in-Some.first.now c.in-Some.after.now c.in-Some.ensures c.args.line _ c.in-Scalar.is (sym (rw c.block-home.ensures at c.in_default-misfit.ensures))
    ∙ ap (λ w. w andThen (λ _. (read_nothing c.args.bound c.in-Some.after.now andThen (λ _. Ok (scalar c.in-Some.first.now.line c.in-Scalar.text, c.in-Some.after.now))))) (rw c.below.ensures at c.in_ok-nothing-in-Scalar.ensures)
    ∙ ap (λ w. w andThen (λ _. Ok (scalar c.in-Some.first.now.line c.in-Scalar.text, c.in-Some.after.now))) c.in_ok-nothing-in-Scalar-2.ensures)

-- ---- items

pub items-returns-in-Some-misfit : goal.items-returns-in-Some-misfit
items-returns-in-Some-misfit t c =
    let now = read_as items c.args.level c.args.home [] c.args.bound c.loop-piece.rest.now in
    fails_by _ _ _ c.refused.ensures (loop_stops c.loop-piece.items now _ c.loop-piece.invariant _ (read_misfit c.args.level c.args.bound c.loop-piece.rest.now c.in-Some.piece.now c.in-Some.after.now c.in-Some.ensures items c.args.home [] c.in-Some-misfit.kind (sym c.in-Some-misfit.ensures)))

pub items-returns-in_err-item : goal.items-returns-in_err-item
items-returns-in_err-item t c =
    let p = err_from_is_err_and c.from_residual.result c.from_residual.ensures.1 in
    let e = c.in_err-item.field-0.0 in
    let m = sym c.in_default-misfit.ensures in
    let piece = c.in-Some.piece.now in
    rw (p.1, p.2) (loop_fails c.loop-piece.items (read_as items c.args.level c.args.home [] c.args.bound c.loop-piece.rest.now) _ c.loop-piece.invariant e (read_block (c.args.level + 1) piece.line (below piece) c.in-Some.after.now) _
    (items_more c.args.level c.args.bound c.loop-piece.rest.now piece c.in-Some.after.now c.in-Some.ensures c.args.home (is_item c.args.level c.args.home piece c.requires.kind m) m) (rw c.below.ensures at c.in_err-item.ensures))

pub items-loop-piece-smaller : goal.items-loop-piece-smaller
items-loop-piece-smaller t c =
    block_shorter c.args.bound c.loop-piece.rest.now c.in-Some.piece.now c.in-Some.after.now c.in-Some.ensures (c.args.level + 1) c.in-Some.piece.now.line (below c.in-Some.piece.now) c.in_ok-item.item c.in_ok-item.behind.now (rw c.below.ensures at c.in_ok-item.ensures)

pub items-loop-piece-preserved : goal.items-loop-piece-preserved
items-loop-piece-preserved t c =
    let m = sym c.in_default-misfit.ensures in
    let piece = c.in-Some.piece.now in
    rw c.in_ok-push.ensures.ok (loop_goes c.loop-piece.items (read_as items c.args.level c.args.home [] c.args.bound c.loop-piece.rest.now) _ c.loop-piece.invariant (read_block (c.args.level + 1) piece.line (below piece) c.in-Some.after.now) (λ n. n) (λ ps. read_as items c.args.level c.args.home [] c.args.bound ps) c.in_ok-item.item c.in_ok-item.behind.now
    (items_more c.args.level c.args.bound c.loop-piece.rest.now piece c.in-Some.after.now c.in-Some.ensures c.args.home (is_item c.args.level c.args.home piece c.requires.kind m) m) (rw c.below.ensures at c.in_ok-item.ensures))

pub items-returns : goal.items-returns
items-returns t c = loop_ends c.loop-piece.items (read_as items c.args.level c.args.home [] c.args.bound c.loop-piece.rest.now) _ c.loop-piece.invariant c.loop-piece.rest.now (read_none items c.args.level c.args.home [] c.args.bound c.loop-piece.rest.now c.in_default.ensures)

-- ---- pairs

pub pairs-returns-in-Some-misfit : goal.pairs-returns-in-Some-misfit
pairs-returns-in-Some-misfit t c =
    let now = read_as pairs c.args.level c.args.home c.loop-piece.keys c.args.bound c.loop-piece.rest.now in
    fails_by _ _ _ c.refused.ensures (loop_stops c.loop-piece.pairs now _ c.loop-piece.invariant _ (read_misfit c.args.level c.args.bound c.loop-piece.rest.now c.in-Some.piece.now c.in-Some.after.now c.in-Some.ensures pairs c.args.home c.loop-piece.keys c.in-Some-misfit.kind (sym c.in-Some-misfit.ensures)))

pub pairs-returns-then-has : goal.pairs-returns-then-has
pairs-returns-then-has t c =
    let now = read_as pairs c.args.level c.args.home c.loop-piece.keys c.args.bound c.loop-piece.rest.now in
    fails_by _ _ _ c.refused-then-has.ensures (loop_stops c.loop-piece.pairs now _ c.loop-piece.invariant _ (read_repeated c.args.level c.args.bound c.loop-piece.rest.now c.in-Some.piece.now c.in-Some.after.now c.in-Some.ensures pairs c.args.home c.loop-piece.keys _ _ c.in-Entry.is (sym c.in_default-misfit.ensures) (sym c.has.ensures ∙ c.if-has.true)))

pub pairs-returns-in_err-value : goal.pairs-returns-in_err-value
pairs-returns-in_err-value t c =
    let r = c.from_residual-in_err-value in
    let p = err_from_is_err_and r.result r.ensures.1 in
    let e = c.in_err-value.field-0.0 in
    rw (p.1, p.2) (loop_fails c.loop-piece.pairs (read_as pairs c.args.level c.args.home c.loop-piece.keys c.args.bound c.loop-piece.rest.now) _ c.loop-piece.invariant e _ _
    (pairs_more c.args.level c.args.bound c.loop-piece.rest.now c.in-Some.piece.now c.in-Some.after.now c.in-Some.ensures c.args.home c.loop-piece.keys _ _ c.in-Entry.is (sym c.in_default-misfit.ensures) (sym c.has.ensures ∙ c.if-has.false)) c.in_err-value.ensures)

pub pairs-loop-piece-smaller : goal.pairs-loop-piece-smaller
pairs-loop-piece-smaller t c = value_shorter c.args.bound c.loop-piece.rest.now c.in-Some.piece.now c.in-Some.after.now c.in-Some.ensures c.args.level c.in-Some.piece.now c.in_ok-value.value c.in_ok-value.behind.now c.in_ok-value.ensures

pub pairs-loop-piece-preserved : goal.pairs-loop-piece-preserved
pairs-loop-piece-preserved t c =
    rw (c.in_ok-push.ensures.ok, c.in_ok-keys.ensures, c.in_ok-key.ensures)
    (loop_goes c.loop-piece.pairs (read_as pairs c.args.level c.args.home c.loop-piece.keys c.args.bound c.loop-piece.rest.now) _ c.loop-piece.invariant _ (pair c.in-Entry.key c.in-Some.piece.now.line) _ c.in_ok-value.value c.in_ok-value.behind.now
    (pairs_more c.args.level c.args.bound c.loop-piece.rest.now c.in-Some.piece.now c.in-Some.after.now c.in-Some.ensures c.args.home c.loop-piece.keys _ _ c.in-Entry.is (sym c.in_default-misfit.ensures) (sym c.has.ensures ∙ c.if-has.false)) c.in_ok-value.ensures)

pub pairs-returns : goal.pairs-returns
pairs-returns t c = loop_ends c.loop-piece.pairs (read_as pairs c.args.level c.args.home c.loop-piece.keys c.args.bound c.loop-piece.rest.now) _ c.loop-piece.invariant c.loop-piece.rest.now (read_none pairs c.args.level c.args.home c.loop-piece.keys c.args.bound c.loop-piece.rest.now c.in_default.ensures)

-- ---- the value of an entry

pub value-returns-in-Nothing : goal.value-returns-in-Nothing
value-returns-in-Nothing t c =
    let v = inline_is c.args.inline.now c.args.piece.now.head c.requires.inline in
    rw (value_block c.args.level c.args.piece.now c.args.after.now v.0 (v.1 ∙ ap (head.Entry v.0) c.in-Nothing.is)) (rw c.below.ensures at c.block.ensures)

pub value-returns-in_err-nothing-in-Scalar : goal.value-returns-in_err-nothing-in-Scalar
value-returns-in_err-nothing-in-Scalar t c =
    let p = err_from_is_err_and c.from_residual.result c.from_residual.ensures.1 in
    let e = c.in_err-nothing-in-Scalar.field-0.0 in
    let v = inline_is c.args.inline.now c.args.piece.now.head c.requires.inline in
    rw (p.1, p.2) (fails_as e _ _ (value_scalar c.args.level c.args.piece.now c.args.after.now v.0 _ (v.1 ∙ ap (head.Entry v.0) c.in-Scalar.is))
    (fails_then e _ _ (rw c.below-in-Scalar.ensures at c.in_err-nothing-in-Scalar.ensures)))

pub value-returns-in_ok-try_clone-in-Scalar : goal.value-returns-in_ok-try_clone-in-Scalar
value-returns-in_ok-try_clone-in-Scalar t c =
    let v = inline_is c.args.inline.now c.args.piece.now.head c.requires.inline in
    rw (c.scalar.ensures, c.in_ok-try_clone-in-Scalar.ensures) (
    value_scalar c.args.level c.args.piece.now c.args.after.now v.0 _ (v.1 ∙ ap (head.Entry v.0) c.in-Scalar.is)
    ∙ ap (λ w. w andThen (λ _. Ok (scalar c.args.piece.now.line c.in-Scalar.text, c.args.after.now))) (rw c.below-in-Scalar.ensures at c.in_ok-nothing-in-Scalar.ensures))

pub value-returns-in-Refused : goal.value-returns-in-Refused
value-returns-in-Refused t c =
    let v = inline_is c.args.inline.now c.args.piece.now.head c.requires.inline in
    fails_by _ _ _ c.refused.ensures (value_refused c.args.level c.args.piece.now c.args.after.now v.0 _ (v.1 ∙ ap (head.Entry v.0) c.in-Refused.is))
