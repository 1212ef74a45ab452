use Rattle.std.proofs.Common.{rules, tests, ap, ◌∙◌}
use Rattle.std.proofs.lemmas.Iterator.Consumers.{YieldsList-end}
use Rattle.std.proofs.lemmas.Iterator.Splits.{YieldsList-from_slice_split}
use Rattle.std.specs.Slice.Iter as slice
use Rattle.folder_form.proofs.Sums.{splits-ends}
use Rattle.folder_form.proofs.shape.splits_in.Goals as goal

pub returns : goal.returns
returns c =
    let g = c.into_iter-line-iterator.ensures.into_iter_gives in
    let e = YieldsList-end (YieldsList-from_slice_split {s = c.into_iter-line-iterator.result} _ _ c.args.text.now (ap slice.split_rest g ∙ c.split-line-items.ensures.rest) (ap slice.split_done g ∙ c.split-line-items.ensures.done) (ap slice.split_callee g ∙ c.split-line-items.ensures.closure) (λ x r q k. search (rules, tests))) c.loop-line.yielded _ c.loop-line.yielded_by _ _ c.in-None.is c.next.ensures.steps in
    splits-ends c.args.text.now _ c.loop-line.splits c.loop-line.invariant e.0
