use Rattle.std.proofs.Common.{◌∷◌, [], ◌++◌, ℕ, List, map, take_all, slice_index_or, sym, ap, ◌∙◌, arith}
use Rattle.folder_form.specs.Folders.{count_of}
use Rattle.snapshot_files.proofs.Loads.{counts_next}
use Rattle.snapshot_files.proofs.loading.counts.Goals as goal

pub loop-split-preserved : goal.loop-split-preserved
loop-split-preserved c = c.in_ok-push.ensures.ok ∙ ap (λ (l : List ℕ). l ++ (slice_index_or c.args.taken.now c.loop-split.split-index (record { count = 0 })).count ∷ []) c.loop-split.invariant ∙ sym (counts_next c.args.taken.now c.loop-split.split-index c.loop-split-test.true (record { count = 0 }))

pub returns : goal.returns
returns c = c.loop-split.invariant ∙ ap (map count_of) (take_all c.loop-split.split-index c.args.taken.now (omega arith))
