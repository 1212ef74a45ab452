use Rattle.std.proofs.Common.{◌<◌, ℕ, List, length, take_all, slice_index_or, ap, subst, ◌∙◌, arith}
use Rattle.std.specs.List.{flat_map}
use Rattle.std.proofs.lemmas.Result.{err_from_is_err_and}
use Rattle.sf_disk.specs.Moments.{newest}
use Rattle.folder_form.specs.Folders.{entry_lists}
use Rattle.snapshot_files.proofs.KeptCheckpoints.{complete_untold, parts_told, entries_more, untold_before, open_then, manifest_open, record_is}
use Rattle.snapshot_files.proofs.store.Store.read_entries.Goals as goal

pub complete_at-requires-clause-is_open : goal.complete_at-requires-clause-is_open
complete_at-requires-clause-is_open g c = manifest_open c.args.self.now _ _ c.loop-place.invariant.same c.requires.is_open

pub returns-in_err-complete-clause-refuses : goal.returns-in_err-complete-clause-refuses
returns-in_err-complete-clause-refuses g c =
    let s = c.args.self.now in
    let inv = c.loop-place.invariant in
    let i = c.loop-place.place-index in
    let same = c.as_slice-place-items.ensures in
    let p = err_from_is_err_and c.from_residual.result c.from_residual.ensures.1 in
    rw (p.1, p.2) (untold_before _ _ inv.same _ (complete_untold s i _ (subst (λ (l : List ℕ). i < length l) same c.loop-place-test.true) (ap (λ (l : List ℕ). slice_index_or l i 0) same) _ (open_then s _ _ inv.same c.requires.is_open) _ c.in_err-complete.ensures.refuses))

pub add_entries-requires-clause-is_open : goal.add_entries-requires-clause-is_open
add_entries-requires-clause-is_open g c =
    let s = c.args.self.now in
    let inv = c.loop-place.invariant in
    let i = c.loop-place.place-index in
    let same = c.as_slice-place-items.ensures in
    parts_told s i _ (subst (λ (l : List ℕ). i < length l) same c.loop-place-test.true) (ap (λ (l : List ℕ). slice_index_or l i 0) same) _ _ c.complete_at.ensures.same (open_then s _ _ inv.same c.requires.is_open) c.in_ok-complete.complete (λ m told contents pending is. c.in_ok-complete.ensures.complete m told is.files is.manifest) c.as_slice.result.now c.as_slice.ensures

pub loop-place-preserved : goal.loop-place-preserved
loop-place-preserved g c =
    let s = c.args.self.now in
    let inv = c.loop-place.invariant in
    let i = c.loop-place.place-index in
    let same = c.as_slice-place-items.ensures in
    record {
      same = c.add_entries.ensures.same ∙ c.complete_at.ensures.same ∙ inv.same;
      faults = c.in_ok-add_entries.ensures.cause ∙ c.in_ok-complete.ensures.cause ∙ inv.faults;
      lists = λ m told contents pending is. entries_more s i _ (subst (λ (l : List ℕ). i < length l) same c.loop-place-test.true) (ap (λ (l : List ℕ). slice_index_or l i 0) same) c.in_ok-complete.complete c.as_slice.result.now c.as_slice.ensures _ _ (c.complete_at.ensures.same ∙ inv.same)
          (λ k told_k contents_k pending_k is_k. c.in_ok-complete.ensures.complete k (ap newest inv.same ∙ told_k) is_k.files is_k.manifest)
          c.loop-place.lists _ c.add_entries.new.lists c.in_ok-push.ensures.ok c.in_ok-add_entries.ensures.added m told contents pending is (inv.lists m told contents pending is);
    }

pub returns-clause-entries : goal.returns-clause-entries
returns-clause-entries g c = λ m told contents pending is.
    record_is contents c.loop-place.lists _ (c.loop-place.invariant.lists m told contents pending is ∙ ap (flat_map entry_lists) (take_all c.loop-place.place-index contents.checkpoints (omega (arith, is.newest_is, ap length c.as_slice-place-items.ensures)))) c.in_ok-entries.ensures
