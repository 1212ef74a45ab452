use Rattle.std.proofs.Common.{◌≡◌, ◌++◌, ◌∷◌, [], ℕ, List, length, length-append, true, take_all, refl, sym, subst, ap, ◌∙◌, ◌+◌, arith}
use Rattle.std.proofs.lemmas.Result.{err_from_is_err_and}
use Rattle.sf_disk.specs.Moments.{newest}
use Rattle.typed_values.specs.declared.letter.Letter.{Letter}
use Rattle.piece_messages.specs.declared.piece.Piece.{Piece}
use Rattle.folder_form.specs.Pieces.{owns_letters}
use Rattle.folder_form.specs.Folders.{feedback_of, is_piece, pieces_of}
use Rattle.snapshot_files.specs.Stores.{home_in}
use Rattle.snapshot_files.specs.Reading.{AreOwned, AreSorted}
use Rattle.snapshot_files.proofs.Owned.{owned_next, sorted_next}
use Rattle.snapshot_files.proofs.Loads.{pieces_more, feedback_more, piece_untold, letters_untold, parts_length}
use Rattle.snapshot_files.proofs.store.Store.read_parts.Goals as goal

pub loop-place-preserved : goal.loop-place-preserved
loop-place-preserved g c =
    let s = c.args.self.now in
    let inv = c.loop-place.invariant in
    let i = c.loop-place.place-index in
    let before = c.piece_at.ensures.same ∙ inv.same in
    record {
      partition = ap (λ (k : ℕ). k + 1) inv.partition;
      same = c.letters_at.ensures.same ∙ before;
      faults = c.in_ok-letters.ensures.cause ∙ c.in_ok-piece.ensures.cause ∙ inv.faults;
      pieces = λ m told files parts has.
          c.in_ok-push.ensures.ok ∙ ap (λ (l : List Piece). l ++ c.in_ok-piece.piece ∷ []) (inv.pieces m told files parts has)
          ∙ sym (pieces_more s c.args.moment c.args.places.now i c.loop-place-test.true _ refl c.loop-place.partition inv.partition m files parts has c.in_ok-piece.piece (c.in_ok-piece.ensures.piece m (ap newest inv.same ∙ told) files has.opened));
      feedback = λ m told files parts has.
          c.in_ok-push-2.ensures.ok ∙ ap (λ (l : List (List Letter)). l ++ c.in_ok-letters.letters ∷ []) (inv.feedback m told files parts has)
          ∙ sym (feedback_more s c.args.moment c.args.places.now i c.loop-place-test.true _ refl c.loop-place.partition inv.partition m files parts has c.in_ok-letters.letters (c.in_ok-letters.ensures.letters m (ap newest before ∙ told) files has.opened));
      owned =
          subst (AreOwned s.shape c.args.moment 0) (sym c.in_ok-push.ensures.ok)
          (owned_next s.shape c.args.moment 0 c.loop-place.pieces c.in_ok-piece.piece inv.owned (subst (λ (n : ℕ). is_piece (home_in s.shape n) c.args.moment c.in_ok-piece.piece ≡ true) (omega (arith, inv.partition, inv.pieces_len)) c.in_ok-piece.ensures.owned));
      sorted =
          subst (AreSorted s.shape 0) (sym c.in_ok-push-2.ensures.ok)
          (sorted_next s.shape 0 c.loop-place.feedback c.in_ok-letters.letters inv.sorted (subst (λ (n : ℕ). owns_letters (home_in s.shape n) c.in_ok-letters.letters ≡ true) (omega (arith, inv.partition, inv.lists_len)) c.in_ok-letters.ensures.owned));
      pieces_len = ap length c.in_ok-push.ensures.ok ∙ length-append c.loop-place.pieces (c.in_ok-piece.piece ∷ []) ∙ ap (λ (n : ℕ). n + 1) inv.pieces_len;
      lists_len = ap length c.in_ok-push-2.ensures.ok ∙ length-append c.loop-place.feedback (c.in_ok-letters.letters ∷ []) ∙ ap (λ (n : ℕ). n + 1) inv.lists_len;
    }

pub returns-in_err-piece-clause-refuses : goal.returns-in_err-piece-clause-refuses
returns-in_err-piece-clause-refuses g c =
    let inv = c.loop-place.invariant in
    let p = err_from_is_err_and c.from_residual.result c.from_residual.ensures.1 in
    rw (p.1, p.2) (piece_untold c.args.self.now c.args.moment c.args.places.now c.loop-place.place-index c.loop-place-test.true _ refl c.loop-place.partition inv.partition _ _ inv.same c.requires.is_open _ c.in_err-piece.ensures.refuses)

pub returns-in_err-letters-clause-refuses : goal.returns-in_err-letters-clause-refuses
returns-in_err-letters-clause-refuses g c =
    let inv = c.loop-place.invariant in
    let p = err_from_is_err_and c.from_residual-in_err-letters.result c.from_residual-in_err-letters.ensures.1 in
    rw (p.1, p.2) (letters_untold c.args.self.now c.args.moment c.args.places.now c.loop-place.place-index c.loop-place-test.true _ refl c.loop-place.partition inv.partition _ _ (c.piece_at.ensures.same ∙ inv.same) c.requires.is_open _ c.in_err-letters.ensures.refuses)

pub returns-clause-pieces : goal.returns-clause-pieces
returns-clause-pieces g c = λ m told files parts has.
    c.loop-place.invariant.pieces m told files parts has ∙ ap pieces_of (take_all c.loop-place.place-index parts (omega (arith, parts_length c.args.self.now c.args.moment c.args.places.now m files parts has)))

pub returns-clause-feedback : goal.returns-clause-feedback
returns-clause-feedback g c = λ m told files parts has.
    c.loop-place.invariant.feedback m told files parts has ∙ ap feedback_of (take_all c.loop-place.place-index parts (omega (arith, parts_length c.args.self.now c.args.moment c.args.places.now m files parts has)))

pub returns-clause-fits : goal.returns-clause-fits
returns-clause-fits g c =
    let inv = c.loop-place.invariant in
    record {
      each_piece = inv.owned;
      each_list = inv.sorted;
      pieces_len = omega (arith, inv.pieces_len, c.requires.len);
      lists_len = omega (arith, inv.lists_len, c.requires.len);
    }
