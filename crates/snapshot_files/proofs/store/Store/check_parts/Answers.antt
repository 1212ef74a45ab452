use Rattle.std.proofs.Common.{◌≡◌, ◌<◌, ◌+◌, ℕ, List, Ok, length, take_all, slice_index_or, ap, subst, ◌∙◌, arith}
use Rattle.std.proofs.lemmas.Result.{err_from_is_err_and}
use Rattle.sf_disk.specs.Moments.{newest}
use Rattle.folder_messages.specs.declared.manifest.Place.{Place}
use Rattle.folder_form.specs.Folders.{Part, parts_from}
use Rattle.snapshot_files.proofs.Checkpoints.{nowhere, refused_part, no_piece, no_letters, part_next}
use Rattle.snapshot_files.proofs.store.Store.check_parts.Goals as goal

pub loop-place-preserved : goal.loop-place-preserved
loop-place-preserved g c =
    let s = c.args.self.now in
    let inv = c.loop-place.invariant in
    let i = c.loop-place.place-index in
    let same = c.as_slice-place-items.ensures in
    let before = c.piece_at.ensures.same ∙ inv.same in
    record {
      partition = ap (λ (k : ℕ). k + 1) inv.partition;
      same = c.letters_at.ensures.same ∙ before;
      faults = c.in_ok-_letters.ensures.cause ∙ c.in_ok-_piece.ensures.cause ∙ inv.faults;
      read = λ m told files opened. part_next s.shape c.args.complete.now.moment c.args.complete.now.places i (subst (λ (l : List Place). i < length l) same c.loop-place-test.true) _ (ap (λ (l : List Place). slice_index_or l i nowhere) same) c.loop-place.partition inv.partition files (inv.read m told files opened)
          c.in_ok-_piece._piece (c.in_ok-_piece.ensures.piece m (ap newest inv.same ∙ told) files opened) c.in_ok-_letters._letters (c.in_ok-_letters.ensures.letters m (ap newest before ∙ told) files opened);
    }

pub returns-in_err-_piece-clause-refuses : goal.returns-in_err-_piece-clause-refuses
returns-in_err-_piece-clause-refuses g c =
    let s = c.args.self.now in
    let inv = c.loop-place.invariant in
    let i = c.loop-place.place-index in
    let same = c.as_slice-place-items.ensures in
    let p = err_from_is_err_and c.from_residual.result c.from_residual.ensures.1 in
    rw (p.1, p.2) (refused_part s _ _ inv.same _ _ _ _ (λ m told files opened none. no_piece s.shape c.args.complete.now.moment c.args.complete.now.places i (subst (λ (l : List Place). i < length l) same c.loop-place-test.true) _ (ap (λ (l : List Place). slice_index_or l i nowhere) same) c.loop-place.partition inv.partition files (inv.read m told files opened) none) _ c.in_err-_piece.ensures.refuses)

pub returns-in_err-_letters-clause-refuses : goal.returns-in_err-_letters-clause-refuses
returns-in_err-_letters-clause-refuses g c =
    let s = c.args.self.now in
    let inv = c.loop-place.invariant in
    let i = c.loop-place.place-index in
    let same = c.as_slice-place-items.ensures in
    let before = c.piece_at.ensures.same ∙ inv.same in
    let p = err_from_is_err_and c.from_residual-in_err-_letters.result c.from_residual-in_err-_letters.ensures.1 in
    rw (p.1, p.2) (refused_part s _ _ before _ _ _ _ (λ m told files opened none. no_letters s.shape c.args.complete.now.moment c.args.complete.now.places i (subst (λ (l : List Place). i < length l) same c.loop-place-test.true) _ (ap (λ (l : List Place). slice_index_or l i nowhere) same) c.loop-place.partition inv.partition files (inv.read m told files opened)
    c.in_ok-_piece._piece (c.in_ok-_piece.ensures.piece m (ap newest inv.same ∙ told) files opened) none) _ c.in_err-_letters.ensures.refuses)

pub returns-clause-parts : goal.returns-clause-parts
returns-clause-parts g c = λ m told files opened.
    let s = c.args.self.now in
    let same = c.as_slice-place-items.ensures in
    subst (λ (l : List Place). (parts : List Part) × (parts_from s.shape.partitions 0 files c.args.complete.now.moment l ≡ Ok parts)) (take_all c.loop-place.place-index c.args.complete.now.places (omega (arith, ap length same))) (c.loop-place.invariant.read m told files opened)
