use Rattle.std.proofs.Common.{◌≡◌, ◌∙◌, sym, ap, subst, refl, ◌≤◌, [], length, Option, arith}
use Rattle.std.specs.Prelude.{IsSome}
use Rattle.std.specs.List.{list_all}
use Rattle.std.specs.Option.{option_map_or}
use Rattle.typed_values.specs.Sameness.{same_address}
use Rattle.batch_queue.specs.Boxes.{Waiting}
use Rattle.batch_queue.specs.Lines.{stands}
use Rattle.batch_queue.specs.Post.{with_letters, opened}
use Rattle.batch_queue.specs.Kept.{Kept, post_of}
use Rattle.batch_queue.proofs.Keeping.{Changes, kept_after, post_after, letters_here}
use Rattle.batch_queue.proofs.mail.Mail.open.Goals as goal

pub line_up-requires-clause-known : goal.line_up-requires-clause-known
line_up-requires-clause-known c =
    let box = c.self.invariant.boxed c.args.address.now c.in-Some.kept.now (sym c.in-Some.ensures.value) in
    let number : c.open.new.self.number ≡ c.in-Some.kept.now.number = ap (λ (b : Waiting). b.number) c.open.ensures in
    let numbered = box.numbered in
    let roomy = c.self.invariant.roomy in
    omega (arith, number, numbered, roomy)

pub line_up-requires-clause-before : goal.line_up-requires-clause-before
line_up-requires-clause-before c =
    let box = c.self.invariant.boxed c.args.address.now c.in-Some.kept.now (sym c.in-Some.ensures.value) in
    ap (λ (b : Waiting). stands b.number c.self.inside.line.numbers) c.open.ensures ∙ box.lined ∙ sym c.is_ready-was_ready.ensures

flown : (c : goal.After-self-in-Some-1) → c.open.new.self.in_flight ≤ length c.open.new.self.letters
flown c =
    let kept : Kept = record { boxes = c.self.inside.boxes.entries; names = c.self.inside.names.items; line = c.self.inside.line } in
    let count : c.open.new.self.in_flight ≡ c.args.count = ap (λ (b : Waiting). b.in_flight) c.open.ensures in
    let letters : length c.open.new.self.letters ≡ length ((post_of c.args.self.now).letters c.args.address.now) =
    ap length (ap (λ (b : Waiting). b.letters) c.open.ensures ∙ sym (letters_here kept c.args.address.now c.in-Some.kept.now (sym c.in-Some.ensures.value)) ∙ ap (λ k. (post_of k).letters c.args.address.now) c.self.view_is) in
    let most = c.requires.most in
    omega (arith, count, letters, most)

changes : (c : goal.After-self-in-Some-1) → Changes
    (record { boxes = c.self.inside.boxes.entries; names = c.self.inside.names.items; line = c.self.inside.line })
    (record { boxes = (c.get_mut.follows.lender c.open.new.self).entries; names = c.self.inside.names.items; line = c.line_up.new.line })
    c.args.address.now c.in-Some.kept.now c.open.new.self
changes c =
    let box = c.self.invariant.boxed c.args.address.now c.in-Some.kept.now (sym c.in-Some.ensures.value) in
    let number : c.open.new.self.number ≡ c.in-Some.kept.now.number = ap (λ (b : Waiting). b.number) c.open.ensures in
    record {
      kept_before = c.self.invariant;
      here = sym c.in-Some.ensures.value;
      writes = ((c.get_mut.follows.holds c.open.new.self).3 (subst IsSome c.in-Some.ensures.value refl)).0;
      numbered = number;
      owned = ap (λ (b : Waiting). list_all (λ letter. same_address c.args.address.now letter.target) b.letters) c.open.ensures
          ∙ box.owned;
      flown = flown c;
      names = refl;
      line = c.line_up.ensures;
    }

pub invariant_of-self : goal.invariant_of-self
invariant_of-self c = kept_after _ _ _ _ _ (changes c)

pub returns-in-Some : goal.returns-in-Some
returns-in-Some c =
    let a = c.args.address.now in
    let kept : Kept = record { boxes = c.self.inside.boxes.entries; names = c.self.inside.names.items; line = c.self.inside.line } in
    let here = sym c.in-Some.ensures.value in
    let letters : c.open.new.self.letters ≡ (post_of kept).letters a = ap (λ (b : Waiting). b.letters) c.open.ensures ∙ sym (letters_here kept a c.in-Some.kept.now here) in
    post_after _ _ _ _ _ (changes c)
    ∙ (λ i. with_letters a (letters i) ((c.open.ensures i).in_flight) (post_of kept))
    ∙ ap (λ k. opened a c.args.count (post_of k)) c.self.view_is

pub returns-in_default : goal.returns-in_default
returns-in_default c =
    let kept : Kept = record { boxes = c.self.inside.boxes.entries; names = c.self.inside.names.items; line = c.self.inside.line } in
    let gone : (post_of c.args.self.now).letters c.args.address.now ≡ [] = sym (ap (λ k. (post_of k).letters c.args.address.now) c.self.view_is) ∙ ap (λ (o : Option Waiting). option_map_or (λ (b : Waiting). b.letters) o []) (sym c.in_default.ensures.value) in
    let some = c.requires.some in
    let no : length ((post_of c.args.self.now).letters c.args.address.now) ≡ 0 = ap length gone in
    absurd (omega (arith, some, no))
