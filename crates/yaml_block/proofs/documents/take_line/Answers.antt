use Rattle.std.proofs.Common.{◌≡◌, sym, ap, ◌∙◌, subst}
use Rattle.std.proofs.lemmas.Result.{err_from_is_err_and}
use Rattle.yaml_block.specs.declared.piece.Line.{Line}
use Rattle.yaml_block.specs.declared.piece.Line.TheVariants as a_line
use Rattle.yaml_block.specs.Documents.{and_line, line_of, IsToldBy}
use Rattle.yaml_block.specs.Steps.{trees_on}
use Rattle.yaml_block.proofs.Joining.{mark_told, mark_tree, pieces_joined}
use Rattle.yaml_block.proofs.documents.take_line.Goals as goal

pub returns-in_err-close-in-Mark-clause-refused : goal.returns-in_err-close-in-Mark-clause-refused
unfolding line_of
returns-in_err-close-in-Mark-clause-refused c =
    let p = err_from_is_err_and c.from_residual-in_err-close-in-Mark.result c.from_residual-in_err-close-in-Mark.ensures.1 in
    let e = c.in_err-close-in-Mark.field-0.0 in
    let l : line_of c.args.line c.args.content.now ≡ a_line.Mark = sym c.in_ok-line_on.ensures ∙ c.in-Mark.is in
    rw (p.1, p.2) (λ ds. subst (λ (x : Line). IsToldBy e (trees_on c.args.nodes.now c.args.pieces.now.items (and_line x ds))) (sym l)
    (mark_told e c.args.nodes.now c.args.pieces.now.items ds (rw c.as_slice.ensures.value at c.in_err-close-in-Mark.ensures.refused)))

pub returns-in_ok-close-in-Mark-clause-ok : goal.returns-in_ok-close-in-Mark-clause-ok
unfolding line_of
returns-in_ok-close-in-Mark-clause-ok c = λ ds.
    let l : line_of c.args.line c.args.content.now ≡ a_line.Mark = sym c.in_ok-line_on.ensures ∙ c.in-Mark.is in
    rw c.clear.ensures.items
    (mark_tree c.args.nodes.now c.close.new.nodes c.args.pieces.now.items ds (rw c.as_slice.ensures.value at c.in_ok-close-in-Mark.ensures.ok)
    ∙ ap (λ (x : Line). trees_on c.args.nodes.now c.args.pieces.now.items (and_line x ds)) (sym l))

pub returns-in_ok-append-in-Pieces-clause-ok : goal.returns-in_ok-append-in-Pieces-clause-ok
unfolding line_of
returns-in_ok-append-in-Pieces-clause-ok c = λ ds.
    let l : line_of c.args.line c.args.content.now ≡ a_line.Pieces c.in-Pieces.more = sym c.in_ok-line_on.ensures ∙ c.in-Pieces.is in
    rw (c.in_ok-append-in-Pieces.ensures.items, c.into_vec-more.ensures)
    (pieces_joined c.args.nodes.now c.args.pieces.now.items c.in-Pieces.more ds
    ∙ ap (λ (x : Line). trees_on c.args.nodes.now c.args.pieces.now.items (and_line x ds)) (sym l))
