use Rattle.std.proofs.Common.{◌≡◌, ◌∙◌, sym, ap, subst, ℕ, ◌<◌, true, true≢false, length, Option, Some, None, slice_get, get_or, List, Bor, map, [], ◌∷◌, rules, refl, zero, suc, arith}
use Rattle.std.specs.Prelude.{IfSome, IsNone}
use Rattle.std.specs.Option.{option_copied}
use Rattle.typed_values.specs.declared.address.Address.{Address}
use Rattle.typed_values.specs.Tables.{empty_address}
use Rattle.batch_queue.specs.Post.{is_ready}
use Rattle.batch_queue.specs.Kept.{Kept, name_of, post_of}
use Rattle.batch_queue.proofs.Keeping.{none_ready, first_ready, some_is}
use Rattle.batch_queue.proofs.mail.Mail.ready.Goals as goal

read_within : (xs : List Address) (k : ℕ) (d : Address) → k < length xs → slice_get xs k ≡ Some (get_or xs k d)
read_within [] k d h = absurd (omega (arith, h))
read_within (x ∷ xs) zero d h = refl
read_within (x ∷ xs) (suc k) d h = read_within xs k d (omega (arith, h))

named : (r : Option (Bor Address)) (a : Address) (kept : Kept) → option_copied r ≡ Some a → is_ready (post_of kept) a ≡ true → IfSome r (λ x. is_ready (post_of kept) x.now ≡ true)
named None a kept e h = absurd cc
named (Some x) a kept e h = subst (λ (y : Address). is_ready (post_of kept) y ≡ true) (sym (some_is x.now a e)) h

not_none : (r : Option (Bor Address)) (a : Address) → option_copied r ≡ Some a → IsNone r → ⊥
not_none None a e h = absurd cc
not_none (Some x) a e h = absurd cc

none_mapped : (f : ℕ → Address) (ns : List ℕ) → slice_get ns 0 ≡ None → slice_get (map f ns) 0 ≡ None
none_mapped f [] e = refl
none_mapped f (n ∷ ns) e = absurd cc

pub returns-in-Some-clause-first : goal.returns-in-Some-clause-first
returns-in-Some-clause-first c =
    let first = first_ready (record { boxes = c.self.inside.boxes.entries; names = c.self.inside.names.items; line = c.self.inside.line }) c.in-Some.number c.self.invariant (sym c.in-Some.ensures) in
    c.name_at.ensures ∙ ap (λ (ns : List Address). slice_get ns c.in-Some.number) c.as_slice.ensures.value
    ∙ read_within c.self.inside.names.items c.in-Some.number empty_address first.0
    ∙ sym first.2 ∙ ap (λ (k : Kept). slice_get (post_of k).ready 0) c.self.view_is

pub returns-in-Some-clause-some : goal.returns-in-Some-clause-some
returns-in-Some-clause-some c =
    let kept : Kept = record { boxes = c.self.inside.boxes.entries; names = c.self.inside.names.items; line = c.self.inside.line } in
    let first = first_ready kept c.in-Some.number c.self.invariant (sym c.in-Some.ensures) in
    let is : option_copied c.name_at.result ≡ Some (name_of kept.names c.in-Some.number) = c.name_at.ensures ∙ ap (λ (ns : List Address). slice_get ns c.in-Some.number) c.as_slice.ensures.value
    ∙ read_within c.self.inside.names.items c.in-Some.number empty_address first.0 in
    subst (λ (k : Kept). IfSome c.name_at.result (λ x. is_ready (post_of k) x.now ≡ true)) c.self.view_is (named c.name_at.result (name_of kept.names c.in-Some.number) kept is first.1)

pub returns-in-Some-clause-none : goal.returns-in-Some-clause-none
returns-in-Some-clause-none c =
    let kept : Kept = record { boxes = c.self.inside.boxes.entries; names = c.self.inside.names.items; line = c.self.inside.line } in
    let first = first_ready kept c.in-Some.number c.self.invariant (sym c.in-Some.ensures) in
    let is : option_copied c.name_at.result ≡ Some (name_of kept.names c.in-Some.number) = c.name_at.ensures ∙ ap (λ (ns : List Address). slice_get ns c.in-Some.number) c.as_slice.ensures.value
    ∙ read_within c.self.inside.names.items c.in-Some.number empty_address first.0 in (
      λ none. absurd (not_none c.name_at.result (name_of kept.names c.in-Some.number) is none),
      λ all. absurd (true≢false (sym first.1 ∙ ap (λ (k : Kept). is_ready (post_of k) (name_of kept.names c.in-Some.number)) c.self.view_is ∙ all (name_of kept.names c.in-Some.number))),
    )

pub returns-in-None-clause-first : goal.returns-in-None-clause-first
returns-in-None-clause-first c =
    sym (sym (ap (λ (k : Kept). slice_get (post_of k).ready 0) c.self.view_is) ∙ none_mapped (name_of c.self.inside.names.items) c.self.inside.line.numbers (sym c.in-None.ensures))

pub returns-in-None-clause-none : goal.returns-in-None-clause-none
returns-in-None-clause-none c =
    let kept : Kept = record { boxes = c.self.inside.boxes.entries; names = c.self.inside.names.items; line = c.self.inside.line } in (
      λ none address. sym (ap (λ (k : Kept). is_ready (post_of k) address) c.self.view_is) ∙ none_ready kept c.self.invariant (sym c.in-None.ensures) address,
      λ all. search rules,
    )
