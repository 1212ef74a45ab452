use Rattle.std.proofs.Common.{ℕ, List, Contains, sym, subst, ◌∙◌}
use Rattle.std.specs.List.Sorted.{IsBinarySearchResult}
use Rattle.std.specs.Ordering.{nat_cmp}
use Rattle.snapshot_files.proofs.Places.{no_block, contained, block_read}
use Rattle.snapshot_files.proofs.parts.body_at.Goals as goal

pub returns-then-is_err-clause-body : goal.returns-then-is_err-clause-body
returns-then-is_err-clause-body g c = λ m told bodies opened.
    let same = c.as_slice.ensures ∙ c.blocks-2.ensures in
    sym (no_block c.args.log.now bodies (m c.args.log.now.file) c.args.place c.binary_search.result opened (sym c.is_err.ensures.value ∙ c.if-is_err.true) (subst (λ (l : List ℕ). IsBinarySearchResult (λ y. nat_cmp y c.args.place) l c.binary_search.result) same c.binary_search.ensures.position))

pub read_block-requires-clause-block : goal.read_block-requires-clause-block
read_block-requires-clause-block g c =
    let same = c.as_slice.ensures ∙ c.blocks-2.ensures in
    subst (λ (l : List ℕ). Contains l c.args.place) same (contained c.as_slice.result.now c.args.place c.binary_search.result (sym c.is_err.ensures.value ∙ c.if-is_err.false) c.binary_search.ensures.bound c.binary_search.ensures.ok)

pub returns-in-Ok-clause-body : goal.returns-in-Ok-clause-body
returns-in-Ok-clause-body g c = λ m told bodies opened.
    let same = c.as_slice.ensures ∙ c.blocks-2.ensures in
    let there = subst (λ (l : List ℕ). Contains l c.args.place) same (contained c.as_slice.result.now c.args.place c.binary_search.result (sym c.is_err.ensures.value ∙ c.if-is_err.false) c.binary_search.ensures.bound c.binary_search.ensures.ok) in
    block_read c.args.log.now bodies (m c.args.log.now.file) c.args.place c.in-Ok.body opened there (λ stands at. c.in-Ok.ensures.body m told bodies stands opened at)
