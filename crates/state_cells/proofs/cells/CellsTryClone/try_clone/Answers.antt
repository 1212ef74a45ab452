use Rattle.std.proofs.Common.{◌≡◌, ◌∙◌, ap, sym, subst, map}
use Rattle.std.specs.Map.{values_of}
use Rattle.indexmap.specs.IndexMap.{values}
use Rattle.state_cells.specs.Kept.{AreCells, under_name}
use Rattle.state_cells.proofs.Rows.{values-under, named-under}
use Rattle.state_cells.proofs.Setting.{Good}
use Rattle.state_cells.proofs.cells.CellsTryClone.try_clone.Goals as goal

pub invariant_of-result : goal.invariant_of-result
invariant_of-result c =
    let lent = c.as_slice.ensures ∙ c.values.ensures.rest in
    let is : c.in_ok-cells.cells.entries ≡ map under_name (values c.self.inside.cells) = c.in_ok-cells.ensures ∙ ap (map under_name) lent in
    subst Good (sym is) (named-under (values c.self.inside.cells), subst AreCells (sym (values-under (values c.self.inside.cells))) c.self.invariant.1)

pub returns : goal.returns
returns c =
    let lent = c.as_slice.ensures ∙ c.values.ensures.rest in
    ap values_of (c.in_ok-cells.ensures ∙ ap (map under_name) lent) ∙ values-under (values c.self.inside.cells) ∙ c.self.view_is
