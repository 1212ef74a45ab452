-- Where the last slash of a text is.
use Rattle.std.proofs.Common.{◌≡◌, ◌≢◌, ℕ, suc, ◌<◌, List, [], ◌∷◌, ◌++◌, length, take, drop, take-append-drop, get_or, ne_eqb, refl, sym, ap, ◌∙◌, arith, lit<, Some, None}
use Rattle.std.specs.Str.Pattern.{RFindsChar, SplitsAroundMatch}
use Rattle.std.proofs.lemmas.Str.Pattern.{NoCharPasses-char, drop_at_char}
use Rattle.std.proofs.Common.{◌+◌, ◌↔◌, ◌⊎◌, ◌||◌, cond, Bool, true, false, Option, eqb-true, subst, nat_eq}
use Rattle.std.specs.Prelude.{count_by, option_and_then}
use Rattle.std.proofs.lemmas.Bool.Decides.{nat_tests}
use Rattle.std.proofs.lemmas.Option.{same_Some}
use Rattle.std.proofs.lemmas.List.Sums.{sum_by-cons}
use Rattle.typed_values.specs.declared.name.TypeName.{TypeName}
use Rattle.typed_values.specs.Names.{round_last_slash, slash_at_last, named, name_in, IsName}

none-at : (xs : List ℕ) → ((i : ℕ) → i < length xs → get_or xs i 0 ≢ 47) → round_last_slash xs ≡ None
none-at [] h = refl
none-at (x ∷ xs) h = let e = none-at xs (λ i l. h (suc i) (omega arith)) in let f = ne_eqb x 47 (h 0 (omega arith)) in rw (e, f) refl

some-at : (xs ys : List ℕ) → ((i : ℕ) → i < length ys → get_or ys i 0 ≢ 47) → round_last_slash (xs ++ 47 ∷ ys) ≡ Some (xs, ys)
some-at [] ys h = let e = none-at ys h in rw e refl
some-at (x ∷ xs) ys h = let e = some-at xs ys h in rw e refl

-- what `rsplit_once` at a slash says
pub round-none : (s : List ℕ) → RFindsChar 47 s None → round_last_slash s ≡ None
round-none s h = none-at s (λ i l. NoCharPasses-char 47 s i h (lit< tt) l)

pub round-some : (s front back : List ℕ) → SplitsAroundMatch (RFindsChar 47) s front back → round_last_slash s ≡ Some (front, back)
round-some s front back w = let e = sym (take-append-drop w.0 s) ∙ ap (λ t. take w.0 s ++ t) (drop_at_char 47 s w.0 w.1 w.2.1 (lit< tt)) in let f = w.3 in let g = w.4 in rw (f, g) (ap round_last_slash e ∙ some-at (take w.0 s) (drop w.1 s) (λ i l. NoCharPasses-char 47 (drop w.1 s) i w.2.0 (lit< tt) l))

-- ---- the parts of a name

count-cons : (x : ℕ) (xs : List ℕ) → count_by (nat_eq 47) (x ∷ xs) ≡ cond (nat_eq 47 x) 1 0 + count_by (nat_eq 47) xs
count-cons x xs = sum_by-cons (λ (y : ℕ). cond (nat_eq 47 y) 1 0) x xs

none-count : (xs : List ℕ) → count_by (nat_eq 47) xs ≡ 0 → round_last_slash xs ≡ None
none-count [] h = refl
none-count (x ∷ xs) h = step (nat_eq 47 x) refl (sym (count-cons x xs) ∙ h) (λ k. none-count xs k)
  where
    step : (b : Bool) → nat_eq 47 x ≡ b → cond b 1 0 + count_by (nat_eq 47) xs ≡ 0 → (count_by (nat_eq 47) xs ≡ 0 → round_last_slash xs ≡ None) → round_last_slash (x ∷ xs) ≡ None
    step true e h rest = absurd (omega arith)
    step false e h rest =
        let none : round_last_slash xs ≡ None = rest (omega arith) in
        let other : nat_eq x 47 ≡ false = grind (arith, nat_tests) in
        rw (none, other) refl

some-count : (xs ys : List ℕ) → count_by (nat_eq 47) ys ≡ 0 → round_last_slash (xs ++ 47 ∷ ys) ≡ Some (xs, ys)
some-count [] ys h = let e = none-count ys h in rw e refl
some-count (x ∷ xs) ys h = let e = some-count xs ys h in rw e refl

-- what a list of bytes has round its last slash
pub record IsCut (text : List ℕ) (parts : List ℕ × List ℕ) : Type 0 where
  pub is : text ≡ parts.0 ++ 47 ∷ parts.1
  pub clear : count_by (nat_eq 47) parts.1 ≡ 0

abbrev Cuts : List ℕ → Option (List ℕ × List ℕ) → Type 0
Cuts text None = count_by (nat_eq 47) text ≡ 0
Cuts text (Some parts) = IsCut text parts

cuts : (text : List ℕ) → Cuts text (round_last_slash text)
cuts [] = refl
cuts (x ∷ xs) = behind (round_last_slash xs) (cuts xs)
  where
    counted : (b : Bool) → b ≡ false → count_by (nat_eq 47) xs ≡ 0 → cond b 1 0 + count_by (nat_eq 47) xs ≡ 0
    counted true f h = absurd cc
    counted false f h = omega arith

    first : (b : Bool) → nat_eq x 47 ≡ b → count_by (nat_eq 47) xs ≡ 0 → Cuts (x ∷ xs) (cond b (Some ([], xs)) None)
    first true e h = let is : x ≡ 47 = eqb-true x 47 e in record { is = ap (λ (n : ℕ). n ∷ xs) is; clear = h }
    first false e h = let other : nat_eq 47 x ≡ false = grind (arith, nat_tests) in count-cons x xs ∙ counted (nat_eq 47 x) other h

    behind : (o : Option (List ℕ × List ℕ)) → Cuts xs o → Cuts (x ∷ xs) (slash_at_last x xs o)
    behind None h = first (nat_eq x 47) refl h
    behind (Some parts) h = record { is = ap (λ (s : List ℕ). x ∷ s) h.is; clear = h.clear }

both-some : (a b : Bool) → (a || b) ≡ false → (a ≡ false) × (b ≡ false)
both-some true b h = absurd cc
both-some false b h = (refl, h)

some-length : (n : ℕ) → nat_eq n 0 ≡ false → 0 < n
some-length n h = grind (arith, nat_tests)

named-made : (text : List ℕ) (parts : List ℕ × List ℕ) (name : TypeName) → IsCut text parts → named parts ≡ Some name → IsName text name
named-made text parts name cut e = step (nat_eq (length parts.0) 0 || nat_eq (length parts.1) 0) refl e
  where
    step : (b : Bool) → (nat_eq (length parts.0) 0 || nat_eq (length parts.1) 0) ≡ b → cond b None (Some (record { namespace = parts.0; name = parts.1 })) ≡ Some name → IsName text name
    step true t e = absurd cc
    step false t e =
        let some = both-some (nat_eq (length parts.0) 0) (nat_eq (length parts.1) 0) t in
        let P : TypeName → Type 0 = λ n. IsName text n in
        let made : IsName text (record { namespace = parts.0; name = parts.1 }) = record {
          is = cut.is;
          has_namespace = some-length (length parts.0) some.0;
          has_name = some-length (length parts.1) some.1;
          has_no_slash = cut.clear;
        } in
        subst P (same_Some _ _ e) made

made-named : (text : List ℕ) (name : TypeName) → IsName text name → option_and_then named (round_last_slash text) ≡ Some name
made-named text name h =
    let e = ap round_last_slash h.is ∙ some-count name.namespace name.name h.has_no_slash in
    let p = h.has_namespace in
    let q = h.has_name in
    let a : nat_eq (length name.namespace) 0 ≡ false = grind (arith, nat_tests) in
    let b : nat_eq (length name.name) 0 ≡ false = grind (arith, nat_tests) in
    rw (e, a, b) refl

pub names-made : (text : List ℕ) (name : TypeName) → (name_in text ≡ Some name) ↔ IsName text name
unfolding name_in
names-made text name = (λ e. read (round_last_slash text) (cuts text) e, λ h. made-named text name h)
  where
    read : (o : Option (List ℕ × List ℕ)) → Cuts text o → option_and_then named o ≡ Some name → IsName text name
    read None h e = absurd cc
    read (Some parts) h e = named-made text parts name h e
