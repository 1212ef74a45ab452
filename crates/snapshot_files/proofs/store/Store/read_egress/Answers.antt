use Rattle.std.proofs.Common.{◌-◌, ℕ, List, slice_index_or, ap, arith}
use Rattle.std.proofs.lemmas.Result.{err_from_is_err_and}
use Rattle.snapshot_files.proofs.KeptCheckpoints.{complete_untold, parts_told, egress_read}
use Rattle.snapshot_files.proofs.store.Store.read_egress.Goals as goal

pub returns-in_err-complete-clause-refuses : goal.returns-in_err-complete-clause-refuses
returns-in_err-complete-clause-refuses g c =
    let s = c.args.self.now in
    let p = err_from_is_err_and c.from_residual.result c.from_residual.ensures.1 in
    rw (p.1, p.2) (complete_untold s (c.args.number - 1) _ (omega (arith, c.requires.first, c.requires.last)) (ap (λ (l : List ℕ). slice_index_or l (c.args.number - 1) 0) c.as_slice.ensures) _ c.requires.is_open _ c.in_err-complete.ensures.refuses)

pub egress_at-requires-clause-is_open : goal.egress_at-requires-clause-is_open
egress_at-requires-clause-is_open g c =
    parts_told c.args.self.now (c.args.number - 1) _ (omega (arith, c.requires.first, c.requires.last)) (ap (λ (l : List ℕ). slice_index_or l (c.args.number - 1) 0) c.as_slice.ensures) _ _ c.complete_at.ensures.same c.requires.is_open c.in_ok-complete.complete (λ m told contents pending is. c.in_ok-complete.ensures.complete m told is.files is.manifest) c.as_slice-2.result.now c.as_slice-2.ensures

pub returns-clause-egress : goal.returns-clause-egress
returns-clause-egress g c =
    egress_read c.args.self.now (c.args.number - 1) _ (omega (arith, c.requires.first, c.requires.last)) (ap (λ (l : List ℕ). slice_index_or l (c.args.number - 1) 0) c.as_slice.ensures) c.in_ok-complete.complete c.as_slice-2.result.now c.as_slice-2.ensures _ _ c.complete_at.ensures.same
    (λ m told contents pending is. c.in_ok-complete.ensures.complete m told is.files is.manifest) c.egress_at.result c.egress_at.ensures.egress
