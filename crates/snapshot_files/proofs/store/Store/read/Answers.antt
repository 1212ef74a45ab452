use Rattle.std.proofs.Common.{ℕ, List, Some, length, slice_get, slice_index_or, refl, sym, ap, subst, ◌∙◌, arith}
use Rattle.std.proofs.lemmas.Result.{err_from_is_err_and}
use Rattle.sf_disk.specs.Moments.{Moment}
use Rattle.block_log.specs.declared.log.BlockLog.{BlockLog}
use Rattle.folder_form.specs.declared.shape.Shape.{Shape}
use Rattle.snapshot_files.specs.declared.slot.Slot.{Slot}
use Rattle.snapshot_files.specs.Steps.{Advances}
use Rattle.snapshot_files.proofs.WholeManifest.{all_same, empty_slot, starts, all_go_on, refused_at, whole_read}
use Rattle.snapshot_files.proofs.store.Store.read.Goals as goal

pub loop-number-init : goal.loop-number-init
loop-number-init g c = record {
  manifest = refl;
  logs = refl;
  text = refl;
  shape = sym c.shape_in.ensures.shape ∙ c.in-Some.is;
  spent = refl;
  empty = λ p slot is. all_same 16 empty_slot p slot (ap (λ (l : List Slot). slice_get l p) (sym (c.in_ok-vec.ensures.items_if_clones_equal (λ y e. e))) ∙ is);
  same = refl;
  faults = refl;
  read = starts c.args.logs.manifest c.args.logs.pieces.items c.args.text _ _ refl (sym c.shape_in.ensures.shape ∙ c.in-Some.is) c.new.ensures refl;
}

pub loop-number-preserved : goal.loop-number-preserved
loop-number-preserved g c =
    let inv = c.loop-number.invariant in
    let others = c.read_next.ensures.others in
    let same = c.as_slice.ensures ∙ c.blocks-in-loop-number.ensures ∙ ap (λ (l : BlockLog). l.blocks) inv.manifest in
    record {
      manifest = others.manifest ∙ inv.manifest;
      logs = others.logs ∙ inv.logs;
      text = others.text ∙ inv.text;
      shape = inv.shape ∙ ap (λ (s : Shape). Some s) (sym others.shape);
      spent = others.spent ∙ inv.spent;
      empty = λ p slot is. inv.empty p slot (ap (λ v. slice_get v.items p) (sym others.slots) ∙ is);
      same = c.read_next.ensures.same ∙ inv.same;
      faults = c.in_ok-read_next.ensures.cause ∙ inv.faults;
      read = all_go_on c.args.logs.manifest c.args.logs.pieces.items c.args.text c.loop-number.store c.read_next.new.self _ c.loop-number.number _ inv.manifest (ap (λ v. v.items) inv.logs) others
          (omega (arith, c.loop-number-test.true, c.len-number-end.ensures, ap length c.blocks-2.ensures)) (ap (λ (l : List ℕ). slice_index_or l c.loop-number.number 0) same) inv.read
          (subst (λ (l : List Moment). Advances c.loop-number.store c.read_next.new.self (slice_index_or c.as_slice.result.now c.loop-number.number 0) l) inv.same c.in_ok-read_next.ensures.next);
    }

pub returns-in_err-read_next-clause-refuses : goal.returns-in_err-read_next-clause-refuses
returns-in_err-read_next-clause-refuses g c =
    let inv = c.loop-number.invariant in
    let others = c.read_next.ensures.others in
    let same = c.as_slice.ensures ∙ c.blocks-in-loop-number.ensures ∙ ap (λ (l : BlockLog). l.blocks) inv.manifest in
    let p = err_from_is_err_and c.from_residual-in_err-read_next.result c.from_residual-in_err-read_next.ensures.1 in
    rw (p.1, p.2) (refused_at c.args.logs.manifest c.args.logs.pieces.items c.args.text c.loop-number.store c.read_next.new.self _ c.loop-number.number _ inv.manifest (ap (λ v. v.items) inv.logs) others
    (omega (arith, c.loop-number-test.true, c.len-number-end.ensures, ap length c.blocks-2.ensures)) (ap (λ (l : List ℕ). slice_index_or l c.loop-number.number 0) same) inv.read
    _ inv.same _ c.in_err-read_next.ensures.refuses)

pub returns-clause-read : goal.returns-clause-read
returns-clause-read g c =
    let inv = c.loop-number.invariant in
    whole_read c.args.logs.manifest c.args.logs.pieces.items c.args.text c.loop-number.store _ c.loop-number.number inv.manifest (ap (λ v. v.items) inv.logs) inv.empty (omega (arith, c.loop-number-test.false, c.len-number-end.ensures, ap length c.blocks-2.ensures)) inv.read
