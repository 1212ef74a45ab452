use Rattle.std.proofs.Common.{◌∙◌, ◌≡◌, ◌<◌, ap, sym, add-one, arith, get_or, length}
use Rattle.std.specs.Map.{values_of}
use Rattle.std.proofs.lemmas.Option.{get_or_from_slice_get}
use Rattle.indexmap.specs.IndexMap.{set_value_at}
use Rattle.indexmap.specs.Layout.{length-set_value_at}
use Rattle.typed_values.specs.Cells.{invoked}
use Rattle.state_cells.proofs.Rows.{still, each-step}
use Rattle.state_cells.proofs.kept.invoke_all.Goals as goal

pub loop-place-preserved : goal.loop-place-preserved
loop-place-preserved c =
    let change = invoked c.args.moment in
    let es = c.args.cells.now.entries in
    let i = c.loop-place.place in
    let old = c.index_mut.result.now in
    let in-range : i < length es = omega (arith, c.loop-place-test.true, c.len-place-end.ensures.len) in
    let is : get_or (values_of es) i old ≡ old = sym (still change i es old in-range) ∙ ap (λ fs. get_or (values_of fs) i old) (sym c.loop-place.invariant.0) ∙ get_or_from_slice_get _ i old old c.index_mut.ensures.value in (
      rw add-one (ap (λ w. set_value_at c.loop-place.cells.entries i w) (c.invoke.ensures ∙ ap change (sym is)) ∙ ap (λ fs. set_value_at fs i (change (get_or (values_of es) i old))) c.loop-place.invariant.0 ∙ each-step change i es old in-range),
      length-set_value_at c.loop-place.cells.entries i c.invoke.new.self ∙ c.loop-place.invariant.1,
    )
