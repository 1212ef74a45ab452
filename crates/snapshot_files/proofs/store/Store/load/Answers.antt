use Rattle.std.proofs.Common.{inl, inr, ◌-◌, ℕ, List, map, length, slice_index_or, sym, ap, subst, ◌∙◌, arith}
use Rattle.std.proofs.lemmas.Result.{err_from_is_err_and}
use Rattle.sf_disk.specs.Moments.{newest}
use Rattle.folder_messages.specs.declared.manifest.Place.{Place}
use Rattle.folder_form.specs.Folders.{count_of}
use Rattle.snapshot_files.specs.Reading.{HasPartsAt}
use Rattle.snapshot_files.proofs.KeptCheckpoints.{found, complete_untold, parts_told, loaded_is, nothing_is}
use Rattle.snapshot_files.proofs.store.Store.load.Goals as goal

pub returns-then-newest-eq0-clause-loaded : goal.returns-then-newest-eq0-clause-loaded
returns-then-newest-eq0-clause-loaded g c = λ m told contents pending is. c.nothing.ensures ∙ nothing_is contents (omega (arith, is.newest_is, c.if-newest-eq0.true, ap length c.as_slice-newest.ensures))

pub returns-in_err-complete-clause-refuses : goal.returns-in_err-complete-clause-refuses
returns-in_err-complete-clause-refuses g c =
    let s = c.args.self.now in
    let p = err_from_is_err_and c.from_residual.result c.from_residual.ensures.1 in
    rw (p.1, p.2) (complete_untold s (length c.as_slice-newest.result.now - 1) _ (omega (arith, c.if-newest-eq0.false, ap length c.as_slice-newest.ensures)) (ap (λ (l : List ℕ). slice_index_or l (length c.as_slice-newest.result.now - 1) 0) c.as_slice.ensures) _ c.requires.is_open _ c.in_err-complete.ensures.refuses)

pub read_parts-requires-clause-is_open : goal.read_parts-requires-clause-is_open
read_parts-requires-clause-is_open g c =
    let s = c.args.self.now in
    parts_told s (length c.as_slice-newest.result.now - 1) _ (omega (arith, c.if-newest-eq0.false, ap length c.as_slice-newest.ensures)) (ap (λ (l : List ℕ). slice_index_or l (length c.as_slice-newest.result.now - 1) 0) c.as_slice.ensures) _ _ c.complete_at.ensures.same c.requires.is_open c.in_ok-complete.complete (λ m told contents pending is. c.in_ok-complete.ensures.complete m told is.files is.manifest) c.as_slice-2.result.now c.as_slice-2.ensures

pub returns-clause-loaded : goal.returns-clause-loaded
returns-clause-loaded g c = λ m told contents pending is.
    let s = c.args.self.now in
    let n = length c.as_slice-newest.result.now in
    let complete = c.in_ok-complete.complete in
    let f = found s (n - 1) _ (omega (arith, c.if-newest-eq0.false, ap length c.as_slice-newest.ensures)) (ap (λ (l : List ℕ). slice_index_or l (n - 1) 0) c.as_slice.ensures) contents pending m is complete (c.in_ok-complete.ensures.complete m told is.files is.manifest) in
    let has = subst (λ (l : List Place). HasPartsAt s complete.moment l m is.files f.checkpoint.parts) (sym c.as_slice-2.ensures) f.has in
    let told_then = ap newest c.complete_at.ensures.same ∙ told in
    loaded_is contents n f.checkpoint complete c.in_ok-taken.taken c.in_ok-parts.parts.pieces c.in_ok-parts.parts.feedback (ap length c.as_slice-newest.ensures ∙ is.newest_is) f.at f.mark (c.in_ok-taken.ensures ∙ ap (map count_of) c.as_slice-3.ensures)
    (c.in_ok-parts.ensures.pieces m told_then is.files f.checkpoint.parts has) (c.in_ok-parts.ensures.feedback m told_then is.files f.checkpoint.parts has)

pub returns-then-newest-eq0-clause-fits : goal.returns-then-newest-eq0-clause-fits
returns-then-newest-eq0-clause-fits g c = inl c.nothing.ensures

pub returns-clause-fits : goal.returns-clause-fits
returns-clause-fits g c = inr c.in_ok-parts.ensures.fits
