use Rattle.std.proofs.Common.{◌≡◌, ◌∙◌, sym, ap, subst, refl, arith, drop}
use Rattle.std.specs.Prelude.{IsSome}
use Rattle.std.specs.List.{list_all}
use Rattle.typed_values.specs.Sameness.{same_address}
use Rattle.batch_queue.specs.Boxes.{Waiting}
use Rattle.batch_queue.specs.Lines.{stands}
use Rattle.batch_queue.specs.Post.{with_letters, taken}
use Rattle.batch_queue.specs.Kept.{Kept, post_of}
use Rattle.batch_queue.proofs.Keeping.{Changes, kept_after, post_after, letters_here, in_flight_here, all_dropped}
use Rattle.batch_queue.proofs.mail.Mail.take_batch.Goals as goal

pub line_up-requires-clause-known : goal.line_up-requires-clause-known
line_up-requires-clause-known c =
    let box = c.self.invariant.boxed c.args.address.now c.in-Some.kept.now (sym c.in-Some.ensures.value) in
    let number : c.take.new.self.number ≡ c.in-Some.kept.now.number = ap (λ (b : Waiting). b.number) c.take.ensures in
    let numbered = box.numbered in
    let roomy = c.self.invariant.roomy in
    omega (arith, number, numbered, roomy)

pub line_up-requires-clause-before : goal.line_up-requires-clause-before
line_up-requires-clause-before c =
    let box = c.self.invariant.boxed c.args.address.now c.in-Some.kept.now (sym c.in-Some.ensures.value) in
    ap (λ (b : Waiting). stands b.number c.self.inside.line.numbers) c.take.ensures ∙ box.lined ∙ sym c.is_ready-was_ready.ensures

changes : (c : goal.After-self-in-Some-1) → Changes
    (record { boxes = c.self.inside.boxes.entries; names = c.self.inside.names.items; line = c.self.inside.line })
    (record { boxes = (c.get_mut.follows.lender c.take.new.self).entries; names = c.self.inside.names.items; line = c.line_up.new.line })
    c.args.address.now c.in-Some.kept.now c.take.new.self
changes c =
    let box = c.self.invariant.boxed c.args.address.now c.in-Some.kept.now (sym c.in-Some.ensures.value) in
    let number : c.take.new.self.number ≡ c.in-Some.kept.now.number = ap (λ (b : Waiting). b.number) c.take.ensures in
    record {
      kept_before = c.self.invariant;
      here = sym c.in-Some.ensures.value;
      writes = ((c.get_mut.follows.holds c.take.new.self).3 (subst IsSome c.in-Some.ensures.value refl)).0;
      numbered = number;
      owned = ap (λ (b : Waiting). list_all (λ letter. same_address c.args.address.now letter.target) b.letters) c.take.ensures
          ∙ all_dropped (λ letter. same_address c.args.address.now letter.target) c.in-Some.kept.now.in_flight c.in-Some.kept.now.letters box.owned;
      flown = (let none : c.take.new.self.in_flight ≡ 0 = ap (λ (b : Waiting). b.in_flight) c.take.ensures in omega (arith, none));
      names = refl;
      line = c.line_up.ensures;
    }

pub invariant_of-self : goal.invariant_of-self
invariant_of-self c = kept_after _ _ _ _ _ (changes c)

pub returns-in-Some : goal.returns-in-Some
returns-in-Some c =
    let a = c.args.address.now in
    let kept : Kept = record { boxes = c.self.inside.boxes.entries; names = c.self.inside.names.items; line = c.self.inside.line } in
    let here = sym c.in-Some.ensures.value in
    let letters : c.take.new.self.letters ≡ drop ((post_of kept).in_flight a) ((post_of kept).letters a) =
    ap (λ (b : Waiting). b.letters) c.take.ensures ∙ sym (λ i. drop (in_flight_here kept a c.in-Some.kept.now here i) (letters_here kept a c.in-Some.kept.now here i)) in
    post_after _ _ _ _ _ (changes c)
    ∙ (λ i. with_letters a (letters i) ((c.take.ensures i).in_flight) (post_of kept))
    ∙ ap (λ k. taken a (post_of k)) c.self.view_is
