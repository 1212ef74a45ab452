use Rattle.std.proofs.Common.{◌+◌, ◌++◌, ◌∷◌, [], ℕ, List, map, take, take_all, refl, sym, ap, ◌∙◌, arith, append_assoc}
use Rattle.std.proofs.lemmas.Result.{err_from_is_err_and}
use Rattle.std.proofs.lemmas.List.{append-nil, map-append}
use Rattle.sf_disk.specs.Moments.{newest}
use Rattle.run_record.specs.declared.entry.Entry.{Entry}
use Rattle.piece_messages.specs.declared.piece.Piece.{Piece}
use Rattle.folder_form.specs.Folders.{Part, entries_of, pieces_of}
use Rattle.snapshot_files.proofs.Loads.{pieces_more, piece_untold, parts_length}
use Rattle.snapshot_files.proofs.store.Store.add_entries.Goals as goal

pub loop-place-init : goal.loop-place-init
loop-place-init g c = record { partition = refl; same = refl; faults = refl; added = λ m told files parts has. sym (append-nil c.args.lists.now) }

pub loop-place-preserved : goal.loop-place-preserved
loop-place-preserved g c =
    let s = c.args.self.now in
    let inv = c.loop-place.invariant in
    let i = c.loop-place.place-index in
    record {
      partition = ap (λ (k : ℕ). k + 1) inv.partition;
      same = c.piece_at.ensures.same ∙ inv.same;
      faults = c.in_ok-piece.ensures.cause ∙ inv.faults;
      added = λ m told files parts has.
          let front = pieces_of (take i parts) in
          c.in_ok-push.ensures.ok ∙ ap (λ (l : List (List Entry)). l ++ c.in_ok-piece.piece.entries ∷ []) (inv.added m told files parts has)
          ∙ append_assoc c.args.lists.now (map entries_of front) (c.in_ok-piece.piece.entries ∷ [])
          ∙ ap (λ (l : List (List Entry)). c.args.lists.now ++ l) (sym (map-append entries_of front (c.in_ok-piece.piece ∷ [])))
          ∙ ap (λ (l : List Piece). c.args.lists.now ++ map entries_of l) (sym (pieces_more s c.args.moment c.args.places.now i c.loop-place-test.true _ refl c.loop-place.partition inv.partition m files parts has c.in_ok-piece.piece (c.in_ok-piece.ensures.piece m (ap newest inv.same ∙ told) files has.opened)));
    }

pub returns-in_err-piece-clause-refuses : goal.returns-in_err-piece-clause-refuses
returns-in_err-piece-clause-refuses g c =
    let inv = c.loop-place.invariant in
    let p = err_from_is_err_and c.from_residual.result c.from_residual.ensures.1 in
    rw (p.1, p.2) (piece_untold c.args.self.now c.args.moment c.args.places.now c.loop-place.place-index c.loop-place-test.true _ refl c.loop-place.partition inv.partition _ _ inv.same c.requires.is_open _ c.in_err-piece.ensures.refuses)

pub returns-clause-added : goal.returns-clause-added
returns-clause-added g c = λ m told files parts has.
    c.loop-place.invariant.added m told files parts has ∙ ap (λ (l : List Part). c.args.lists.now ++ map entries_of (pieces_of l)) (take_all c.loop-place.place-index parts (omega (arith, parts_length c.args.self.now c.args.moment c.args.places.now m files parts has)))
