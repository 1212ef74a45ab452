-- Names, patterns and numbers are told by their words.
use Rattle.std.proofs.Common.{◌≡◌, ◌∙◌, ap, sym, refl, ℕ, ◌+◌, ◌*◌, ◌/◌, ◌%◌, ◌<◌, ◌≤◌, Bool, true, false, not, true≢false, List, [], ◌∷◌, ◌++◌, codes, arith, Option, Some, None, cond}
use Rattle.std.specs.Prelude.{◌&&◌, ◌||◌, nat_lt, ◌==◌}
use Rattle.std.specs.Option.{option_map_or}
use Rattle.std.specs.List.{list_any}
use Rattle.std.specs.Str.{bytes_eq}
use Rattle.std.proofs.lemmas.Bool.Decides.{nat_tests}
use Rattle.std.proofs.lemmas.Slice.Eq.{bytes_eq-Decides}
use Rattle.typed_values.specs.declared.name.TypeName.{TypeName}
use Rattle.typed_values.specs.declared.pattern.TypePattern.{TypePattern}
use Rattle.typed_values.specs.Escape.{escaped, escaped_byte, upper_digit, name_text}
use Rattle.address_routing.specs.JobText.{pattern_text}
use Rattle.address_routing.specs.Plain.{has_no_slash, is_plain_name, is_plain_pattern}

and-left : (a b : Bool) → (a && b) ≡ true → a ≡ true
and-left true b e = refl
and-left false b e = absurd (true≢false (sym e))

and-right : (a b : Bool) → (a && b) ≡ true → b ≡ true
and-right true b e = e
and-right false b e = absurd (true≢false (sym e))

abbrev is_odd_byte : ℕ → Bool
is_odd_byte b = nat_lt b 33 || nat_lt 126 b || b == 37

same_digit : (m n : ℕ) → upper_digit m ≡ upper_digit n → m ≡ n
same_digit m n e = go (nat_lt m 10) (nat_lt n 10) refl refl e
  where
    go : (s t : Bool) → nat_lt m 10 ≡ s → nat_lt n 10 ≡ t → cond s (48 + m) (55 + m) ≡ cond t (48 + n) (55 + n) → m ≡ n
    go true true f g h = omega arith
    go false false f g h = omega arith
    go true false f g h = grind (arith, nat_tests)
    go false true f g h = grind (arith, nat_tests)

-- bytes are told by their escape, whatever is escaped behind them
same_byte : (b c : ℕ) (r s : List ℕ) → escaped_byte b ++ r ≡ escaped_byte c ++ s → (b ≡ c) × (r ≡ s)
same_byte b c r s e = go (is_odd_byte b) (is_odd_byte c) refl refl e
  where
    go : (t u : Bool) → is_odd_byte b ≡ t → is_odd_byte c ≡ u
        → cond t (37 ∷ upper_digit (b / 16) ∷ upper_digit (b % 16) ∷ []) (b ∷ []) ++ r ≡ cond u (37 ∷ upper_digit (c / 16) ∷ upper_digit (c % 16) ∷ []) (c ∷ []) ++ s
        → (b ≡ c) × (r ≡ s)
    go true true f g h =
        let high = same_digit (b / 16) (c / 16) cc in
        let low = same_digit (b % 16) (c % 16) cc in
        (omega (arith, high, low), cc)
    go false false f g h = (cc, cc)
    go true false f g h = absurd (let k : 37 ≡ c = cc in grind (arith, nat_tests))
    go false true f g h = absurd (let k : b ≡ 37 = cc in grind (arith, nat_tests))

no_escape : (c : ℕ) (s : List ℕ) → [] ≡ escaped_byte c ++ s → ⊥
no_escape c s e = go (is_odd_byte c) e
  where
    go : (u : Bool) → [] ≡ cond u (37 ∷ upper_digit (c / 16) ∷ upper_digit (c % 16) ∷ []) (c ∷ []) ++ s → ⊥
    go true h = cc
    go false h = cc

pub same_escape : (bs cs : List ℕ) → escaped bs ≡ escaped cs → bs ≡ cs
same_escape [] [] e = refl
same_escape [] (c ∷ cs) e = absurd (no_escape c (escaped cs) e)
same_escape (b ∷ bs) [] e = absurd (no_escape b (escaped bs) (sym e))
same_escape (b ∷ bs) (c ∷ cs) e = let one = same_byte b c (escaped bs) (escaped cs) e in let rest = same_escape bs cs one.1 in λ i. one.0 i ∷ rest i

-- ---- what stands behind the last slash

abbrev slashed : List ℕ → Bool
slashed bytes = list_any (λ byte. byte == 47) bytes

any-append : (xs ys : List ℕ) → slashed xs ≡ false → slashed ys ≡ false → slashed (xs ++ ys) ≡ false
any-append [] ys e f = f
any-append (x ∷ xs) ys e f = go (x == 47) refl (any-append xs ys)
  where
    go : (t : Bool) → (x == 47) ≡ t → (slashed xs ≡ false → slashed ys ≡ false → slashed (xs ++ ys) ≡ false) → ((x == 47) || slashed (xs ++ ys)) ≡ false
    go true g rest = absurd (let h : ((x == 47) || slashed xs) ≡ true = (λ i. g i || slashed xs) in true≢false (sym h ∙ e))
    go false g rest = (λ i. g i || slashed (xs ++ ys)) ∙ rest ((λ i. sym g i || slashed xs) ∙ e) f

ne-test : (x : ℕ) → (x ≡ 47 → ⊥) → (x == 47) ≡ false
ne-test x h = grind (arith, nat_tests)

digit-plain : (d : ℕ) → (upper_digit d == 47) ≡ false
digit-plain d = go (nat_lt d 10) refl
  where
    go : (t : Bool) → nat_lt d 10 ≡ t → (cond t (48 + d) (55 + d) == 47) ≡ false
    go true e = ne-test (48 + d) (λ h. omega arith)
    go false e = ne-test (55 + d) (λ h. omega arith)

byte-plain : (b : ℕ) → (b == 47) ≡ false → slashed (escaped_byte b) ≡ false
byte-plain b h = go (is_odd_byte b)
  where
    go : (t : Bool) → slashed (cond t (37 ∷ upper_digit (b / 16) ∷ upper_digit (b % 16) ∷ []) (b ∷ [])) ≡ false
    go true = λ i. digit-plain (b / 16) i || (digit-plain (b % 16) i || false)
    go false = λ i. h i || false

or-left : (a b : Bool) → (a || b) ≡ false → a ≡ false
or-left false b e = refl
or-left true b e = absurd (true≢false e)

or-right : (a b : Bool) → (a || b) ≡ false → b ≡ false
or-right false b e = e
or-right true b e = absurd (true≢false e)

escaped-plain : (bs : List ℕ) → slashed bs ≡ false → slashed (escaped bs) ≡ false
escaped-plain [] h = refl
escaped-plain (b ∷ bs) h = any-append (escaped_byte b) (escaped bs) (byte-plain b (or-left (b == 47) (slashed bs) h)) (escaped-plain bs (or-right (b == 47) (slashed bs) h))

holds_slash : (xs ys : List ℕ) → slashed (xs ++ 47 ∷ ys) ≡ true
holds_slash [] ys = refl
holds_slash (x ∷ xs) ys = go (x == 47) (holds_slash xs ys)
  where
    go : (t : Bool) → slashed (xs ++ 47 ∷ ys) ≡ true → (t || slashed (xs ++ 47 ∷ ys)) ≡ true
    go true h = refl
    go false h = h

-- texts that are parts round a slash, of which the second has none, have the same parts
pub same_parts : (xs us ys vs : List ℕ) → slashed ys ≡ false → slashed vs ≡ false → xs ++ 47 ∷ ys ≡ us ++ 47 ∷ vs → (xs ≡ us) × (ys ≡ vs)
same_parts [] [] ys vs py pv e = (refl, cc)
same_parts [] (u ∷ us) ys vs py pv e = absurd (let h : ys ≡ us ++ 47 ∷ vs = cc in true≢false (sym (holds_slash us vs) ∙ sym (ap slashed h) ∙ py))
same_parts (x ∷ xs) [] ys vs py pv e = absurd (let h : xs ++ 47 ∷ ys ≡ vs = cc in true≢false (sym (holds_slash xs ys) ∙ ap slashed h ∙ pv))
same_parts (x ∷ xs) (u ∷ us) ys vs py pv e =
    let h : x ≡ u = cc in let t : xs ++ 47 ∷ ys ≡ us ++ 47 ∷ vs = cc in
    let rest = same_parts xs us ys vs py pv t in ((λ i. h i ∷ rest.0 i), rest.1)

not-false : (b : Bool) → not b ≡ true → b ≡ false
not-false false e = refl
not-false true e = absurd (true≢false (sym e))

pub same_name_text : (m n : TypeName) → is_plain_name m ≡ true → is_plain_name n ≡ true → name_text m ≡ name_text n → m ≡ n
same_name_text m n pm pn e =
    let parts = same_parts (escaped m.namespace) (escaped n.namespace) (escaped m.name) (escaped n.name)
    (escaped-plain m.name (not-false (slashed m.name) pm)) (escaped-plain n.name (not-false (slashed n.name) pn)) e in
    let space = same_escape m.namespace n.namespace parts.0 in
    let name = same_escape m.name n.name parts.1 in
    (λ i. record { namespace = space i; name = name i })

-- the part of a pattern behind its slash
abbrev name_part : Option (List ℕ) → List ℕ
name_part name = option_map_or escaped name (codes "*")

abbrev plain_part : Option (List ℕ) → Bool
plain_part name = option_map_or (λ name. has_no_slash name && not (bytes_eq name (codes "*"))) name true

part-plain : (name : Option (List ℕ)) → plain_part name ≡ true → slashed (name_part name) ≡ false
part-plain None h = refl
part-plain (Some name) h = escaped-plain name (not-false (slashed name) (and-left (has_no_slash name) _ h))

no_star : (name : List ℕ) → plain_part (Some name) ≡ true → codes "*" ≡ escaped name → ⊥
no_star name h e =
    let is : codes "*" ≡ name = same_escape (codes "*") name e in
    true≢false (sym ((bytes_eq-Decides name (codes "*")).1 (sym is)) ∙ not-false (bytes_eq name (codes "*")) (and-right (has_no_slash name) _ h))

same_part : (m n : Option (List ℕ)) → plain_part m ≡ true → plain_part n ≡ true → name_part m ≡ name_part n → m ≡ n
same_part None None pm pn e = refl
same_part None (Some n) pm pn e = absurd (no_star n pn e)
same_part (Some m) None pm pn e = absurd (no_star m pm (sym e))
same_part (Some m) (Some n) pm pn e = ap Some (same_escape m n e)

pub same_pattern_text : (p q : TypePattern) → is_plain_pattern p ≡ true → is_plain_pattern q ≡ true → pattern_text p ≡ pattern_text q → p ≡ q
same_pattern_text p q pp pq e =
    let parts = same_parts (escaped p.namespace) (escaped q.namespace) (name_part p.name) (name_part q.name) (part-plain p.name pp) (part-plain q.name pq) e in
    let space = same_escape p.namespace q.namespace parts.0 in
    let name = same_part p.name q.name pp pq parts.1 in
    (λ i. record { namespace = space i; name = name i })
