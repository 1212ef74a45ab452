use Rattle.std.proofs.Common.{ℕ, Some, false, is_some, slice_get, slice_set, ◌∙◌, sym, ap, arith}
use Rattle.std.proofs.lemmas.Option.{slice_get_read}
use Rattle.std.specs.Option.{option_map_or}
use Rattle.piece_messages.specs.Spelling.{piece_value}
use Rattle.snapshot_files.specs.declared.slot.Slot.{Slot}
use Rattle.snapshot_files.proofs.Writing.{keeps_of, piece_put, set_same, set_other}
use Rattle.snapshot_files.proofs.store.Store.put_piece.Goals as goal

pub returns-in_err-place-clause-meanwhile : goal.returns-in_err-place-clause-meanwhile
returns-in_err-place-clause-meanwhile g c = keeps_of c.args.self.now c.args.piece.now.partition c.as_slice.result.now _ _ (omega (arith, c.requires.partition, c.args.self.now.most)) c.append.ensures.meanwhile

pub returns-clause-meanwhile : goal.returns-clause-meanwhile
returns-clause-meanwhile g c = keeps_of c.args.self.now c.args.piece.now.partition c.as_slice.result.now _ _ (omega (arith, c.requires.partition, c.args.self.now.most)) c.append.ensures.meanwhile

pub returns-clause-put : goal.returns-clause-put
returns-clause-put g c =
    let p = c.args.piece.now.partition in
    let grown = c.append.new.self in
    let old = c.index_mut-slot.result.now in
    let place = c.in_ok-place.place in
    let read = slice_get_read grown.slots.items grown.slots.len p old (omega (arith, grown.slots.ok.0)) (omega (arith, c.requires.partition, c.args.self.now.most, grown.slots_len)) c.index_mut-slot.ensures.value in
    let beside = c.append.ensures.beside in
    piece_put c.args.self.now _ (record { manifest = beside.manifest; text = beside.text; shape = beside.shape; completes = beside.completes; stored_leg = beside.stored_leg }) place c.as_slice.result.now _ _ old c.args.piece.now
    c.in_ok-place.ensures.grown (ap (λ v. slice_get v.items p) (sym c.append.ensures.slots) ∙ read) c.requires.owned (ap piece_value c.as_slice.ensures ∙ c.in_ok-body.ensures.again)
    (ap (λ v. slice_set v.items p (record { piece = Some place; latest = c.latest_in-slot.result; letters = old.letters })) c.append.ensures.slots
    ∙ ap (λ (l : ℕ). slice_set c.args.self.now.slots.items p (record { piece = Some place; latest = l; letters = old.letters })) c.latest_in-slot.ensures)

pub returns-clause-has_piece : goal.returns-clause-has_piece
returns-clause-has_piece g c = ap (λ o. option_map_or (λ (s : Slot). is_some s.piece) o false) (set_same c.append.new.self.slots.items c.args.piece.now.partition _ (omega (arith, c.requires.partition, c.args.self.now.most, c.append.new.self.slots_len, c.append.new.self.slots.ok.0)))

pub returns-clause-latest : goal.returns-clause-latest
returns-clause-latest g c =
    ap (λ o. option_map_or (λ (s : Slot). s.latest) o 0) (set_same c.append.new.self.slots.items c.args.piece.now.partition _ (omega (arith, c.requires.partition, c.args.self.now.most, c.append.new.self.slots_len, c.append.new.self.slots.ok.0)))
    ∙ c.latest_in-slot.ensures

pub returns-clause-letters : goal.returns-clause-letters
returns-clause-letters g c =
    let p = c.args.piece.now.partition in
    let grown = c.append.new.self in
    let old = c.index_mut-slot.result.now in
    let read = slice_get_read grown.slots.items grown.slots.len p old (omega (arith, grown.slots.ok.0)) (omega (arith, c.requires.partition, c.args.self.now.most, grown.slots_len)) c.index_mut-slot.ensures.value in
    ap (λ o. option_map_or (λ (s : Slot). is_some s.letters) o false) (set_same grown.slots.items p _ (omega (arith, c.requires.partition, c.args.self.now.most, grown.slots_len, grown.slots.ok.0)))
    ∙ sym (ap (λ o. option_map_or (λ (s : Slot). is_some s.letters) o false) (ap (λ v. slice_get v.items p) (sym c.append.ensures.slots) ∙ read))

pub returns-clause-others : goal.returns-clause-others
returns-clause-others g c =
    let beside = c.append.ensures.beside in
    record {
      text = beside.text;
      shape = beside.shape;
      completes = beside.completes;
      stored_leg = beside.stored_leg;
      slots = λ other differs. set_other c.append.new.self.slots.items c.args.piece.now.partition other _ differs ∙ ap (λ v. slice_get v.items other) c.append.ensures.slots;
    }
