use Rattle.std.proofs.Common.{◌+◌, ◌++◌, ◌∷◌, [], ℕ, List, take, take_all, refl, sym, ap, ◌∙◌, arith}
use Rattle.std.specs.List.{flat_map}
use Rattle.std.proofs.lemmas.Result.{err_from_is_err_and}
use Rattle.std.proofs.lemmas.List.{append-nil}
use Rattle.std.proofs.lemmas.List.Concat.{flat_map-append}
use Rattle.sf_disk.specs.Moments.{newest}
use Rattle.typed_values.specs.declared.record.EgressRecord.{EgressRecord}
use Rattle.folder_form.specs.Folders.{Part, egress_of, pieces_of}
use Rattle.snapshot_files.proofs.Loads.{pieces_more, piece_untold, parts_length}
use Rattle.snapshot_files.proofs.store.Store.egress_at.Goals as goal

pub loop-place-preserved : goal.loop-place-preserved
loop-place-preserved g c =
    let s = c.args.self.now in
    let inv = c.loop-place.invariant in
    let i = c.loop-place.place-index in
    record {
      partition = ap (λ (k : ℕ). k + 1) inv.partition;
      same = c.piece_at.ensures.same ∙ inv.same;
      faults = c.in_ok-piece.ensures.cause ∙ inv.faults;
      given = λ m told files parts has.
          let front = pieces_of (take i parts) in
          c.in_ok-append.ensures.items ∙ ap (λ (l : List EgressRecord). c.loop-place.given.items ++ l) c.into_vec-egress.ensures ∙ ap (λ (l : List EgressRecord). l ++ c.in_ok-piece.piece.egress) (inv.given m told files parts has)
          ∙ ap (λ (l : List EgressRecord). flat_map egress_of front ++ l) (sym (append-nil c.in_ok-piece.piece.egress))
          ∙ sym (flat_map-append egress_of front (c.in_ok-piece.piece ∷ []))
          ∙ ap (flat_map egress_of) (sym (pieces_more s c.args.moment c.args.places.now i c.loop-place-test.true _ refl c.loop-place.partition inv.partition m files parts has c.in_ok-piece.piece (c.in_ok-piece.ensures.piece m (ap newest inv.same ∙ told) files has.opened)));
    }

pub returns-in_err-piece-clause-refuses : goal.returns-in_err-piece-clause-refuses
returns-in_err-piece-clause-refuses g c =
    let inv = c.loop-place.invariant in
    let p = err_from_is_err_and c.from_residual.result c.from_residual.ensures.1 in
    rw (p.1, p.2) (piece_untold c.args.self.now c.args.moment c.args.places.now c.loop-place.place-index c.loop-place-test.true _ refl c.loop-place.partition inv.partition _ _ inv.same c.requires.is_open _ c.in_err-piece.ensures.refuses)

pub returns-clause-egress : goal.returns-clause-egress
returns-clause-egress g c = λ m told files parts has.
    c.of.ensures ∙ c.loop-place.invariant.given m told files parts has ∙ ap (λ (l : List Part). flat_map egress_of (pieces_of l)) (take_all c.loop-place.place-index parts (omega (arith, parts_length c.args.self.now c.args.moment c.args.places.now m files parts has)))
