use Rattle.std.proofs.Common.{◌≡◌, ◌∙◌, sym, ap, refl, ◌<◌, ◌++◌, ◌∷◌, [], false, true≢false, length, Option, Some, None, cond, arith}
use Rattle.std.specs.Option.{is_some}
use Rattle.std.specs.Map.{lookup}
use Rattle.std.specs.BTreeMap.{is_at}
use Rattle.typed_values.specs.declared.address.Address.{Address}
use Rattle.batch_queue.specs.Boxes.{Waiting}
use Rattle.batch_queue.specs.Kept.{Kept, IsKept, address_order, box_of, post_of}
use Rattle.batch_queue.proofs.Keeping.{same_boxes, new_box}
use Rattle.batch_queue.proofs.mail.Mail.make_box.Goals as goal

none_there : (o : Option Waiting) → is_some o ≡ false → o ≡ None
none_there None e = refl
none_there (Some box) e = absurd (true≢false e)

pub invariant_of-self : goal.invariant_of-self
invariant_of-self c =
    (same_boxes (record { boxes = c.self.inside.boxes.entries; names = c.self.inside.names.items; line = c.self.inside.line })
    (record { boxes = c.self.inside.boxes.entries; names = c.make_room.new.names.items; line = c.make_room.new.line })
    c.self.invariant (λ b. refl) c.make_room.ensures.names c.make_room.ensures.line c.make_room.ensures.size).0

refused : (c : goal.After-drop-name-in_err-insert-3) →
    IsKept (record { boxes = c.insert.new.self.entries; names = c.make_room.new.names.items; line = c.make_room.new.line })
    × (post_of (record { boxes = c.insert.new.self.entries; names = c.make_room.new.names.items; line = c.make_room.new.line })
    ≡ post_of (record { boxes = c.self.inside.boxes.entries; names = c.self.inside.names.items; line = c.self.inside.line }))
refused c =
    same_boxes (record { boxes = c.self.inside.boxes.entries; names = c.self.inside.names.items; line = c.self.inside.line })
    (record { boxes = c.insert.new.self.entries; names = c.make_room.new.names.items; line = c.make_room.new.line })
    c.self.invariant (λ b. ap (lookup (is_at (address_order b))) c.in_err-insert.ensures.err) c.make_room.ensures.names c.make_room.ensures.line c.make_room.ensures.size

pub invariant_of-self-in_err-insert : goal.invariant_of-self-in_err-insert
invariant_of-self-in_err-insert c = (refused c).0

pub returns-in_err-insert : goal.returns-in_err-insert
returns-in_err-insert c = (refused c).1 ∙ ap post_of c.self.view_is

made : (c : goal.After-add_name) →
    IsKept (record { boxes = c.insert.new.self.entries; names = c.add_name.new.names.items; line = c.make_room.new.line })
    × (post_of (record { boxes = c.insert.new.self.entries; names = c.add_name.new.names.items; line = c.make_room.new.line })
    ≡ post_of (record { boxes = c.self.inside.boxes.entries; names = c.self.inside.names.items; line = c.self.inside.line }))
made c =
    let before : Kept = record { boxes = c.self.inside.boxes.entries; names = c.self.inside.names.items; line = c.self.inside.line } in
    let room : Kept = record { boxes = c.self.inside.boxes.entries; names = c.make_room.new.names.items; line = c.make_room.new.line } in
    let after : Kept = record { boxes = c.insert.new.self.entries; names = c.add_name.new.names.items; line = c.make_room.new.line } in
    let wider = same_boxes before room c.self.invariant (λ b. refl) c.make_room.ensures.names c.make_room.ensures.line c.make_room.ensures.size in
    let a : Address = c.args.address.now in
    let key : c.in_ok-key.key ≡ a = c.in_ok-key.ensures in
    let name : c.in_ok-name.name ≡ a = c.in_ok-name.ensures in
    let none : box_of room a ≡ None = none_there (box_of room a) (sym c.contains_key.ensures ∙ c.if-contains_key.false) in
    let number : c.len.result ≡ length c.make_room.new.names.items = c.len.ensures ∙ c.make_room.new.names.ok.0 in
    let box : c.new-kept.result ≡ record { letters = []; in_flight = 0; number = length c.make_room.new.names.items } = c.new-kept.ensures ∙ (λ i. record { letters = []; in_flight = 0; number = number i }) in
    let fits : length c.make_room.new.names.items < c.make_room.new.line.size = let k = c.in_ok-make_room.ensures.number in let l = c.make_room.new.names.ok.0 in omega (arith, k, l) in
    let now = new_box room after a c.new-kept.result wider.0 none box
    (λ b. c.in_ok-insert.ensures.updates.0 b ∙ ap (λ (k : Address). cond (is_at (address_order k) b) (Some c.new-kept.result) (box_of room b)) key)
    (c.add_name.ensures ∙ ap (λ (n : Address). c.make_room.new.names.items ++ n ∷ []) name) refl fits in
    (now.0, now.1 ∙ wider.1)

pub invariant_of-self-2 : goal.invariant_of-self-2
invariant_of-self-2 c = (made c).0

pub returns : goal.returns
returns c = (made c).1 ∙ ap post_of c.self.view_is
