use mathlib.Core.Path.{fun_ext}
use Rattle.std.proofs.Common.{◌≡◌, ◌∙◌, ◌-◌, ◌++◌, ap, ℕ, List, take}
use Rattle.std.specs.Prelude.{get_or, vec_len, replicate}
use Rattle.statefun_driver.proofs.Recorded.{padded}
use Rattle.statefun_driver.proofs.progress.counts_of.Goals as goal

pub returns-clause-counts : goal.returns-clause-counts
returns-clause-counts c =
    let more = c.args.splits - vec_len c.in_ok-counts.counts in
    let copied : c.in_ok-counts.counts.items ≡ c.args.taken.now = c.in_ok-counts.ensures.items_if_clones_equal (λ x y e. e) in
    fun_ext (λ split.
    ap (λ (xs : List ℕ). get_or xs split 0) c.in_ok-resize.ensures.items
    ∙ ap (λ (xs : List ℕ). get_or (take c.args.splits xs ++ replicate more 0) split 0) copied ∙ padded c.args.taken.now c.args.splits more split c.requires)
