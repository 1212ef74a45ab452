use Rattle.std.proofs.Common.{◌≡◌, ◌∙◌, sym, ap, subst, refl, arith, ◌+◌, ◌++◌, ◌∷◌, [], length, length-append}
use Rattle.std.specs.Prelude.{IsSome}
use Rattle.std.specs.List.{list_all}
use Rattle.typed_values.specs.Sameness.{same_address}
use Rattle.batch_queue.specs.Boxes.{Waiting}
use Rattle.batch_queue.specs.Lines.{stands}
use Rattle.batch_queue.specs.Post.{with_letters, put}
use Rattle.batch_queue.specs.Kept.{Kept, IsKept, post_of}
use Rattle.batch_queue.proofs.Keeping.{Changes, same_boxes, written_back, kept_after, post_after, letters_here, in_flight_here, all_pushed}
use Rattle.batch_queue.proofs.Addresses.{same_itself}
use Rattle.batch_queue.proofs.mail.Mail.add.Goals as goal

pub line_up-requires-clause-known : goal.line_up-requires-clause-known
line_up-requires-clause-known c =
    let box = c.self.invariant.boxed c.args.letter.target c.in-Some.kept.now (sym c.in-Some.ensures.value) in
    let number : c.push.new.self.number ≡ c.in-Some.kept.now.number = ap (λ (b : Waiting). b.number) c.in_default-push.ensures.ok in
    let numbered = box.numbered in
    let roomy = c.self.invariant.roomy in
    omega (arith, number, numbered, roomy)

pub line_up-requires-clause-before : goal.line_up-requires-clause-before
line_up-requires-clause-before c =
    let box = c.self.invariant.boxed c.args.letter.target c.in-Some.kept.now (sym c.in-Some.ensures.value) in
    ap (λ (b : Waiting). stands b.number c.self.inside.line.numbers) c.in_default-push.ensures.ok ∙ box.lined ∙ sym c.is_ready-was_ready.ensures

changes : (c : goal.After-self-2-1) → Changes
    (record { boxes = c.self.inside.boxes.entries; names = c.self.inside.names.items; line = c.self.inside.line })
    (record { boxes = (c.get_mut.follows.lender c.push.new.self).entries; names = c.self.inside.names.items; line = c.line_up.new.line })
    c.args.letter.target c.in-Some.kept.now c.push.new.self
changes c =
    let box = c.self.invariant.boxed c.args.letter.target c.in-Some.kept.now (sym c.in-Some.ensures.value) in
    let number : c.push.new.self.number ≡ c.in-Some.kept.now.number = ap (λ (b : Waiting). b.number) c.in_default-push.ensures.ok in
    record {
      kept_before = c.self.invariant;
      here = sym c.in-Some.ensures.value;
      writes = ((c.get_mut.follows.holds c.push.new.self).3 (subst IsSome c.in-Some.ensures.value refl)).0;
      numbered = number;
      owned = ap (λ (b : Waiting). list_all (λ letter. same_address c.args.letter.target letter.target) b.letters) c.in_default-push.ensures.ok
          ∙ all_pushed (λ letter. same_address c.args.letter.target letter.target) c.in-Some.kept.now.letters c.args.letter box.owned (same_itself c.args.letter.target);
      flown = (let same : c.push.new.self.in_flight ≡ c.in-Some.kept.now.in_flight = ap (λ (b : Waiting). b.in_flight) c.in_default-push.ensures.ok in
          let more : length c.push.new.self.letters ≡ length c.in-Some.kept.now.letters + 1 = ap (λ (b : Waiting). length b.letters) c.in_default-push.ensures.ok ∙ length-append c.in-Some.kept.now.letters (c.args.letter ∷ []) in
          let flown = box.flown in omega (arith, same, more, flown));
      names = refl;
      line = c.line_up.ensures;
    }

pub invariant_of-self-2 : goal.invariant_of-self-2
invariant_of-self-2 c = kept_after _ _ _ _ _ (changes c)

pub returns-clause-ok : goal.returns-clause-ok
returns-clause-ok c =
    let a = c.args.letter.target in
    let kept : Kept = record { boxes = c.self.inside.boxes.entries; names = c.self.inside.names.items; line = c.self.inside.line } in
    let here = sym c.in-Some.ensures.value in
    let letters : c.push.new.self.letters ≡ (post_of kept).letters a ++ c.args.letter ∷ [] =
    ap (λ (b : Waiting). b.letters) c.in_default-push.ensures.ok ∙ sym (ap (λ ls. ls ++ c.args.letter ∷ []) (letters_here kept a c.in-Some.kept.now here)) in
    let flight : c.push.new.self.in_flight ≡ (post_of kept).in_flight a = ap (λ (b : Waiting). b.in_flight) c.in_default-push.ensures.ok ∙ sym (in_flight_here kept a c.in-Some.kept.now here) in
    post_after _ _ _ _ _ (changes c)
    ∙ (λ i. with_letters a (letters i) (flight i) (post_of kept))
    ∙ ap (λ k. put c.args.letter (post_of k)) c.self.view_is

unchanged : (c : goal.In-Err) →
    IsKept (record { boxes = (c.get_mut.follows.lender c.push.new.self).entries; names = c.self.inside.names.items; line = c.self.inside.line })
    × (post_of (record { boxes = (c.get_mut.follows.lender c.push.new.self).entries; names = c.self.inside.names.items; line = c.self.inside.line })
    ≡ post_of (record { boxes = c.self.inside.boxes.entries; names = c.self.inside.names.items; line = c.self.inside.line }))
unchanged c =
    let kept : Kept = record { boxes = c.self.inside.boxes.entries; names = c.self.inside.names.items; line = c.self.inside.line } in
    let after : Kept = record { boxes = (c.get_mut.follows.lender c.push.new.self).entries; names = c.self.inside.names.items; line = c.self.inside.line } in
    same_boxes kept after c.self.invariant
    (written_back kept after c.args.letter.target c.in-Some.kept.now c.push.new.self (sym c.in-Some.ensures.value) c.in-Err.ensures.err
    ((c.get_mut.follows.holds c.push.new.self).3 (subst IsSome c.in-Some.ensures.value refl)).0)
    refl refl (omega arith)

pub invariant_of-self-in-Err : goal.invariant_of-self-in-Err
invariant_of-self-in-Err c = (unchanged c).0

pub returns-in-Err-clause-err : goal.returns-in-Err-clause-err
returns-in-Err-clause-err c = (unchanged c).1 ∙ ap post_of c.self.view_is
