use Rattle.std.proofs.Common.{◌≡◌, ℕ, List, Some, Ok, false, is_some, slice_get, slice_set, ◌∙◌, sym, ap, subst, arith}
use Rattle.std.proofs.lemmas.Option.{slice_get_read}
use Rattle.std.specs.Option.{option_map_or}
use Rattle.typed_values.specs.declared.letter.Letter.{Letter}
use Rattle.piece_messages.specs.Spelling.{feedback_value}
use Rattle.snapshot_files.specs.declared.slot.Slot.{Slot}
use Rattle.snapshot_files.proofs.Writing.{keeps_of, letters_put, set_same, set_other}
use Rattle.snapshot_files.proofs.store.Store.put_feedback.Goals as goal

pub returns-in_err-place-clause-meanwhile : goal.returns-in_err-place-clause-meanwhile
returns-in_err-place-clause-meanwhile g c = keeps_of c.args.self.now c.args.partition c.as_slice.result.now _ _ (omega (arith, c.requires.partition, c.args.self.now.most)) c.append.ensures.meanwhile

pub returns-clause-meanwhile : goal.returns-clause-meanwhile
returns-clause-meanwhile g c = keeps_of c.args.self.now c.args.partition c.as_slice.result.now _ _ (omega (arith, c.requires.partition, c.args.self.now.most)) c.append.ensures.meanwhile

pub returns-clause-put : goal.returns-clause-put
returns-clause-put g c =
    let p = c.args.partition in
    let grown = c.append.new.self in
    let old = c.index_mut.result.now in
    let place = c.in_ok-place.place in
    let read = slice_get_read grown.slots.items grown.slots.len p old (omega (arith, grown.slots.ok.0)) (omega (arith, c.requires.partition, c.args.self.now.most, grown.slots_len)) c.index_mut.ensures.value in
    let beside = c.append.ensures.beside in
    letters_put c.args.self.now _ (record { manifest = beside.manifest; text = beside.text; shape = beside.shape; completes = beside.completes; stored_leg = beside.stored_leg }) place c.as_slice.result.now _ _ old p c.args.letters.now
    c.in_ok-place.ensures.grown (ap (λ v. slice_get v.items p) (sym c.append.ensures.slots) ∙ read) c.requires.owned
    (again _ _ c.as_slice.result.now c.in_ok-try_clone.ensures (ap feedback_value c.as_slice.ensures ∙ c.in_ok-body.ensures.again))
    (ap (λ v. slice_set v.items p (record { piece = old.piece; latest = old.latest; letters = Some place })) c.append.ensures.slots)
  where
    again : (copy letters : List Letter) (body : List ℕ) → copy ≡ letters → feedback_value body ≡ Ok (record { letters = copy }) → feedback_value body ≡ Ok (record { letters = letters })
    again copy letters body same is = subst (λ (l : List Letter). feedback_value body ≡ Ok (record { letters = l })) same is

pub returns-clause-has_letters : goal.returns-clause-has_letters
returns-clause-has_letters g c = ap (λ o. option_map_or (λ (s : Slot). is_some s.letters) o false) (set_same c.append.new.self.slots.items c.args.partition _ (omega (arith, c.requires.partition, c.args.self.now.most, c.append.new.self.slots_len, c.append.new.self.slots.ok.0)))

pub returns-clause-piece : goal.returns-clause-piece
returns-clause-piece g c =
    let p = c.args.partition in
    let grown = c.append.new.self in
    let old = c.index_mut.result.now in
    let read = slice_get_read grown.slots.items grown.slots.len p old (omega (arith, grown.slots.ok.0)) (omega (arith, c.requires.partition, c.args.self.now.most, grown.slots_len)) c.index_mut.ensures.value in
    ap (λ o. option_map_or (λ (s : Slot). is_some s.piece) o false) (set_same grown.slots.items p _ (omega (arith, c.requires.partition, c.args.self.now.most, grown.slots_len, grown.slots.ok.0)))
    ∙ sym (ap (λ o. option_map_or (λ (s : Slot). is_some s.piece) o false) (ap (λ v. slice_get v.items p) (sym c.append.ensures.slots) ∙ read))

pub returns-clause-latest : goal.returns-clause-latest
returns-clause-latest g c =
    let p = c.args.partition in
    let grown = c.append.new.self in
    let old = c.index_mut.result.now in
    let read = slice_get_read grown.slots.items grown.slots.len p old (omega (arith, grown.slots.ok.0)) (omega (arith, c.requires.partition, c.args.self.now.most, grown.slots_len)) c.index_mut.ensures.value in
    ap (λ o. option_map_or (λ (s : Slot). s.latest) o 0) (set_same grown.slots.items p _ (omega (arith, c.requires.partition, c.args.self.now.most, grown.slots_len, grown.slots.ok.0)))
    ∙ sym (ap (λ o. option_map_or (λ (s : Slot). s.latest) o 0) (ap (λ v. slice_get v.items p) (sym c.append.ensures.slots) ∙ read))

pub returns-clause-others : goal.returns-clause-others
returns-clause-others g c =
    let beside = c.append.ensures.beside in
    record {
      text = beside.text;
      shape = beside.shape;
      completes = beside.completes;
      stored_leg = beside.stored_leg;
      slots = λ other differs. set_other c.append.new.self.slots.items c.args.partition other _ differs ∙ ap (λ v. slice_get v.items other) c.append.ensures.slots;
    }
