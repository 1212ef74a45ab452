use Rattle.std.proofs.Common.{rules, ◌≡◌, ◌∷◌, ◌∙◌, sym, ap, map}
use Rattle.typed_values.specs.Sameness.{same_bytes}
use Rattle.address_routing.specs.Routing.{all_apart}
use Rattle.folder_form.specs.Pieces.{cell_name}
use Rattle.folder_form.proofs.Stated.{apart-goes-on, apart-ends}
use Rattle.folder_form.proofs.states.are_apart.Goals as goal

pub returns-then-has_name_of : goal.returns-then-has_name_of
returns-then-has_name_of c =
    let whole : c.loop-cell.rest.now ≡ c.in-Some.cell.now ∷ c.in-Some.others.now = search rules in
    sym (ap (λ cells. all_apart same_bytes (map cell_name cells)) whole ∙ apart-ends c.in-Some.cell.now c.in-Some.others.now (sym c.has_name_of.ensures ∙ c.if-has_name_of.true)) ∙ c.loop-cell.invariant

pub loop-cell-preserved : goal.loop-cell-preserved
loop-cell-preserved c =
    let whole : c.loop-cell.rest.now ≡ c.in-Some.cell.now ∷ c.in-Some.others.now = search rules in
    sym (ap (λ cells. all_apart same_bytes (map cell_name cells)) whole ∙ apart-goes-on c.in-Some.cell.now c.in-Some.others.now (sym c.has_name_of.ensures ∙ c.if-has_name_of.false)) ∙ c.loop-cell.invariant
