-- What is cut out of a text in UTF-8 at bytes below 128 is in UTF-8.
use Rattle.std.proofs.Common.{◌≡◌, ℕ, zero, suc, ◌+◌, ◌<◌, Bool, true, false, ◌||◌, ◌&&◌, ◌==◌, cond, List, [], ◌∷◌, ◌++◌, length, take, drop, Option, Some, None, refl, sym, ap, ap₂, subst, ◌∙◌, append_assoc, arith}
use Rattle.std.proofs.lemmas.Bool.Decides.{nat_tests}
use Rattle.std.proofs.lemmas.List.{take_at, drop_at, append-nil, length-append}
use Rattle.std.proofs.Math.Seq.{get_or-append_seam}
use Rattle.std.specs.Str.{IsUtf8, IsAscii}
use Rattle.std.proofs.Math.Utf8.{encode}
use Rattle.std.proofs.lemmas.Str.{IsUtf8-take, IsUtf8-drop, IsUtf8-append, IsUtf8-from_ascii, IsUtf8-past_char, IsCharBoundary-before_ascii, IsCharBoundary-after_ascii}
use Rattle.yaml_block.specs.Scalars.{is_white, past_white, is_end, is_over, is_gap, is_item, is_quote, plain, in_front, cut_at_colon, single, double, escape, escaped_in_front, quoted}
use Rattle.yaml_block.specs.Lines.{behind_colon}
use Rattle.yaml_block.specs.Documents.{without_mark}
use Rattle.yaml_block.proofs.Scanning.{Found}

-- ---- cutting and joining

place : (a bs : List ℕ) (b : ℕ) → length a < length (a ++ b ∷ bs)
place a bs b = omega (arith, length-append a (b ∷ bs))

pub utf8_before : (a bs : List ℕ) (b : ℕ) → b < 128 → IsUtf8 (a ++ b ∷ bs) → IsUtf8 a
utf8_before a bs b small u =
    subst IsUtf8 (take_at a (b ∷ bs) (length a) refl)
    (IsUtf8-take (a ++ b ∷ bs) (length a) u (IsCharBoundary-before_ascii (a ++ b ∷ bs) (length a) (place a bs b) (rw (get_or-append_seam a b bs 0) small)))

pub utf8_behind : (a bs : List ℕ) (b : ℕ) → b < 128 → IsUtf8 (a ++ b ∷ bs) → IsUtf8 bs
utf8_behind a bs b small u =
    let whole : a ++ b ∷ bs ≡ (a ++ b ∷ []) ++ bs = sym (simp append_assoc) in
    let e : drop (length a + 1) (a ++ b ∷ bs) ≡ bs = ap (drop (length a + 1)) whole ∙ drop_at (a ++ b ∷ []) bs (length a + 1) (length-append a (b ∷ [])) in
    subst IsUtf8 e (IsUtf8-drop (a ++ b ∷ bs) (length a + 1) u (IsCharBoundary-after_ascii (a ++ b ∷ bs) (length a) u (place a bs b) (rw (get_or-append_seam a b bs 0) small)))

pub utf8_tail : (b : ℕ) (bs : List ℕ) → b < 128 → IsUtf8 (b ∷ bs) → IsUtf8 bs
utf8_tail b bs small u = utf8_behind [] bs b small u

one_byte : (b : ℕ) → b < 128 → IsAscii (b ∷ [])
one_byte b small zero = small
one_byte b small (suc i) = omega arith

pub utf8_joined : (a bs : List ℕ) (b : ℕ) → b < 128 → IsUtf8 a → IsUtf8 bs → IsUtf8 (a ++ b ∷ bs)
utf8_joined a bs b small u v = IsUtf8-append a (b ∷ bs) u (IsUtf8-append (b ∷ []) bs (IsUtf8-from_ascii (b ∷ []) (one_byte b small)) v)

-- ---- white space, plain scalars and keys

pub equals : (b n : ℕ) → (b == n) ≡ true → b ≡ n
equals b n e = grind (arith, nat_tests)

pub and_left : (a b : Bool) → (a && b) ≡ true → a ≡ true
and_left true b e = refl
and_left false b e = absurd cc

pub and_right : (a b : Bool) → (a && b) ≡ true → b ≡ true
and_right true b e = e
and_right false b e = absurd cc

pub white_small : (b : ℕ) → is_white b ≡ true → b < 128
white_small b w = grind (arith, nat_tests)

pub quote_small : (b : ℕ) → is_quote b ≡ true → b < 128
quote_small b q = grind (arith, nat_tests)

pub item_small : (b : ℕ) (bs : List ℕ) → is_item b bs ≡ true → b < 128
item_small b bs d = omega (arith, equals b 45 (and_left _ _ d))

pub past_white_utf8 : (s : List ℕ) → IsUtf8 s → IsUtf8 (past_white s)
past_white_utf8 [] u = u
past_white_utf8 (b ∷ bs) u = elim (is_white b) as (λ v. is_white b ≡ v → IsUtf8 (cond v (past_white bs) (b ∷ bs))) [
  | true ↦ (λ w. past_white_utf8 bs (utf8_tail b bs (white_small b w) u))
  | false ↦ (λ w. u)
] refl

-- what follows a plain scalar is nothing, or white space
abbrev BeginsWhite : List ℕ → Type 0
BeginsWhite [] = Unit {0}
BeginsWhite (b ∷ bs) = is_white b ≡ true

behind_plain : (s : List ℕ) → (r : List ℕ) × (s ≡ plain s ++ r) × BeginsWhite r
behind_plain [] = ([], refl, tt)
behind_plain (b ∷ bs) =
    let P : Bool → Type 0 = λ v. (is_white b && is_end (past_white bs)) ≡ v → (r : List ℕ) × (◌≡◌ {A = List ℕ} (b ∷ bs) (cond v [] (b ∷ plain bs) ++ r)) × BeginsWhite r in
    elim (is_white b && is_end (past_white bs)) as P [
      | true ↦ (λ o. (b ∷ bs, refl, and_left _ _ o))
      | false ↦ (λ o. let h = behind_plain bs in (h.0, ap (λ (r : List ℕ). b ∷ r) h.1, h.2))
    ] refl

plain_before : (s p r : List ℕ) → s ≡ p ++ r → BeginsWhite r → IsUtf8 s → IsUtf8 p
plain_before s p [] e w u = subst IsUtf8 (e ∙ append-nil p) u
plain_before s p (b ∷ bs) e w u = utf8_before p bs b (white_small b w) (subst IsUtf8 e u)

pub plain_utf8 : (s : List ℕ) → IsUtf8 s → IsUtf8 (plain s)
plain_utf8 s u = let h = behind_plain s in plain_before s (plain s) h.0 h.1 h.2 u

in_front_is : (b : ℕ) (f : Found) (x : List ℕ × List ℕ) → in_front b f ≡ Some x → (y : List ℕ × List ℕ) × (f ≡ Some y) × (x.0 ≡ b ∷ y.0) × (x.1 ≡ y.1)
in_front_is b None x e = absurd cc
in_front_is b (Some y) x e =
    let k : ◌≡◌ {A = List ℕ × List ℕ} (b ∷ y.0, y.1) x = cc in
    (y, refl, ap (λ (z : List ℕ × List ℕ). z.0) (sym k), ap (λ (z : List ℕ × List ℕ). z.1) (sym k))

some_is : (a b : List ℕ) (x : List ℕ × List ℕ) → ◌≡◌ {A = Found} (Some (a, b)) (Some x) → (x.0 ≡ a) × (x.1 ≡ b)
some_is a b x e =
    let k : ◌≡◌ {A = List ℕ × List ℕ} (a, b) x = cc in
    (ap (λ (z : List ℕ × List ℕ). z.0) (sym k), ap (λ (z : List ℕ × List ℕ). z.1) (sym k))

colon_is : (b : ℕ) (bs : List ℕ) → (b == 58 && is_gap bs) ≡ true → b ≡ 58
colon_is b bs e = equals b 58 (and_left _ _ e)

pub cut_whole : (s : List ℕ) (x : List ℕ × List ℕ) → cut_at_colon s ≡ Some x → s ≡ x.0 ++ 58 ∷ x.1
cut_whole [] x e = absurd cc
cut_whole (b ∷ bs) x e =
    let P : Bool → Type 0 = λ v. ◌≡◌ {A = Found} (cond v None (cond (b == 58 && is_gap bs) (Some ([], bs)) (in_front b (cut_at_colon bs)))) (Some x) → b ∷ bs ≡ x.0 ++ 58 ∷ x.1 in
    let Q : Bool → Type 0 = λ v. (b == 58 && is_gap bs) ≡ v → ◌≡◌ {A = Found} (cond v (Some ([], bs)) (in_front b (cut_at_colon bs))) (Some x) → b ∷ bs ≡ x.0 ++ 58 ∷ x.1 in
    elim (is_over (b ∷ bs)) as P [
      | true ↦ (λ e. absurd cc)
      | false ↦ (λ e. elim (b == 58 && is_gap bs) as Q [
        | true ↦ (λ t e. let k = some_is [] bs x e in ap (λ (n : ℕ). n ∷ bs) (colon_is b bs t) ∙ sym (ap₂ (λ (p q : List ℕ). p ++ 58 ∷ q) k.0 k.1))
        | false ↦ (λ t e. let k = in_front_is b (cut_at_colon bs) x e in ap (λ (r : List ℕ). b ∷ r) (cut_whole bs k.0 k.1) ∙ sym (ap₂ (λ (p q : List ℕ). p ++ 58 ∷ q) k.2 k.3))
      ] refl e)
    ] e

pub key_utf8 : (s : List ℕ) (at : ℕ) → IsUtf8 s → Some (take at s, drop (at + 1) s) ≡ cut_at_colon s → IsUtf8 (take at s) × IsUtf8 (drop (at + 1) s)
key_utf8 s at u e =
    let w = subst IsUtf8 (cut_whole s (take at s, drop (at + 1) s) (sym e)) u in
    (utf8_before (take at s) (drop (at + 1) s) 58 (omega arith) w, utf8_behind (take at s) (drop (at + 1) s) 58 (omega arith) w)

pub behind_colon_utf8 : (s r : List ℕ) → IsUtf8 s → Some r ≡ behind_colon s → IsUtf8 r
behind_colon_utf8 [] r u e = absurd cc
behind_colon_utf8 (b ∷ bs) r u e =
    let P : Bool → Type 0 = λ v. (b == 58 && is_gap bs) ≡ v → ◌≡◌ {A = Option (List ℕ)} (Some r) (cond v (Some bs) None) → IsUtf8 r in
    elim (b == 58 && is_gap bs) as P [
      | true ↦ (λ t e. let k : bs ≡ r = cc in subst IsUtf8 k (utf8_tail b bs (omega (arith, colon_is b bs t)) u))
      | false ↦ (λ t e. absurd cc)
    ] refl e

-- ---- quoted scalars, with the bytes in front that were passed since the last cut

pub Kept : List ℕ → List ℕ × List ℕ → Type 0
Kept front x = IsUtf8 (front ++ x.0) × IsUtf8 x.1

ended : (front bs : List ℕ) (q b : ℕ) (x : List ℕ × List ℕ) → q < 128 → (b == q) ≡ true → IsUtf8 (front ++ b ∷ bs) → ◌≡◌ {A = Found} (Some ([], bs)) (Some x) → Kept front x
unfolding Kept
ended front bs q b x small t u e =
    let k = some_is [] bs x e in
    let b_small : b < 128 = omega (arith, equals b q t) in
    (rw (k.0, append-nil front) (utf8_before front bs b b_small u), rw k.1 (utf8_behind front bs b b_small u))

module _ (front : List ℕ) (b : ℕ) (f : Found) (x y : List ℕ × List ℕ) (first : x.0 ≡ b ∷ y.0) (rest : x.1 ≡ y.1) where
  -- a byte that stands for itself
  gone_on : Kept (front ++ b ∷ []) y → Kept front x
  unfolding Kept
  gone_on k = let e : (front ++ b ∷ []) ++ y.0 ≡ front ++ b ∷ y.0 = simp append_assoc in (rw first (rw e at k.0), rw rest k.1)

  -- a byte that stands for others
  put : b < 128 → IsUtf8 front → Kept [] y → Kept front x
  unfolding Kept
  put small u k = (rw first (utf8_joined front y.0 b small u k.0), rw rest k.1)

moved : (front bs : List ℕ) (b c : ℕ) → IsUtf8 (front ++ b ∷ c ∷ bs) → IsUtf8 ((front ++ b ∷ []) ++ c ∷ bs)
moved front bs b c u = let e : (front ++ b ∷ []) ++ c ∷ bs ≡ front ++ b ∷ c ∷ bs = simp append_assoc in rw e u

pub single_kept : (front s : List ℕ) (x : List ℕ × List ℕ) → IsUtf8 (front ++ s) → single s ≡ Some x → Kept front x
single_kept front [] x u e = absurd cc
single_kept front (b ∷ []) x u e =
    let P : Bool → Type 0 = λ v. (b == 39) ≡ v → ◌≡◌ {A = Found} (cond v (Some ([], [])) None) (Some x) → Kept front x in
    elim (b == 39) as P [ true ↦ (λ t e. ended front [] 39 b x (omega arith) t u e) | false ↦ (λ t e. absurd cc) ] refl e
single_kept front (b ∷ c ∷ bs) x u e =
    let P : Bool → Type 0 = λ v. (b == 39) ≡ v → ◌≡◌ {A = Found} (cond v (cond (c == 39) (in_front 39 (single bs)) (Some ([], c ∷ bs))) (in_front b (single (c ∷ bs)))) (Some x) → Kept front x in
    let Q : Bool → Type 0 = λ v. (b == 39) ≡ true → (c == 39) ≡ v → ◌≡◌ {A = Found} (cond v (in_front 39 (single bs)) (Some ([], c ∷ bs))) (Some x) → Kept front x in
    elim (b == 39) as P [
      | true ↦ (λ t e. elim (c == 39) as Q [
        | true ↦ (λ t s e.
            let k = in_front_is 39 (single bs) x e in
            let b_small : b < 128 = omega (arith, equals b 39 t) in
            let v = utf8_tail c bs (omega (arith, equals c 39 s)) (utf8_behind front (c ∷ bs) b b_small u) in
            put front 39 (single bs) x k.0 k.2 k.3 (omega arith) (utf8_before front (c ∷ bs) b b_small u) (single_kept [] bs k.0 v k.1))
        | false ↦ (λ t s e. ended front (c ∷ bs) 39 b x (omega arith) t u e)
      ] t refl e)
      | false ↦ (λ t e.
          let k = in_front_is b (single (c ∷ bs)) x e in
          gone_on front b (single (c ∷ bs)) x k.0 k.2 k.3 (single_kept (front ++ b ∷ []) (c ∷ bs) k.0 (moved front bs b c u) k.1))
    ] refl e

escape_small : (c m : ℕ) → escape c ≡ Some m → (c < 128) × (m < 128)
escape_small c m e =
    let R : Type 0 = (c < 128) × (m < 128) in
    let T : Bool → Type 0 = λ v. (c == 114) ≡ v → ◌≡◌ {A = Option ℕ} (cond v (Some 13) None) (Some m) → R in
    let S : Bool → Type 0 = λ v. (c == 116) ≡ v → ◌≡◌ {A = Option ℕ} (cond v (Some 9) (cond (c == 114) (Some 13) None)) (Some m) → R in
    let Q : Bool → Type 0 = λ v. (c == 110) ≡ v → ◌≡◌ {A = Option ℕ} (cond v (Some 10) (cond (c == 116) (Some 9) (cond (c == 114) (Some 13) None))) (Some m) → R in
    let P : Bool → Type 0 = λ v. (c == 92 || c == 34 || c == 47) ≡ v → ◌≡◌ {A = Option ℕ} (cond v (Some c) (cond (c == 110) (Some 10) (cond (c == 116) (Some 9) (cond (c == 114) (Some 13) None)))) (Some m) → R in
    elim (c == 92 || c == 34 || c == 47) as P [
      | true ↦ (λ t e. let k : c ≡ m = cc in let l : c < 128 = grind (arith, nat_tests) in (l, subst (λ (n : ℕ). n < 128) k l))
      | false ↦ (λ _ e. elim (c == 110) as Q [
        | true ↦ (λ t e. let k : 10 ≡ m = cc in (omega (arith, equals c 110 t), omega arith))
        | false ↦ (λ _ e. elim (c == 116) as S [
          | true ↦ (λ t e. let k : 9 ≡ m = cc in (omega (arith, equals c 116 t), omega arith))
          | false ↦ (λ _ e. elim (c == 114) as T [
            | true ↦ (λ t e. let k : 13 ≡ m = cc in (omega (arith, equals c 114 t), omega arith))
            | false ↦ (λ t e. absurd cc)
          ] refl e)
        ] refl e)
      ] refl e)
    ] refl e

pub double_kept : (front s : List ℕ) (x : List ℕ × List ℕ) → IsUtf8 (front ++ s) → double s ≡ Some x → Kept front x
double_kept front [] x u e = absurd cc
double_kept front (b ∷ []) x u e =
    let P : Bool → Type 0 = λ v. (b == 34) ≡ v → ◌≡◌ {A = Found} (cond v (Some ([], [])) None) (Some x) → Kept front x in
    elim (b == 34) as P [ true ↦ (λ t e. ended front [] 34 b x (omega arith) t u e) | false ↦ (λ t e. absurd cc) ] refl e
double_kept front (b ∷ c ∷ bs) x u e =
    let P : Bool → Type 0 = λ v. (b == 34) ≡ v → ◌≡◌ {A = Found} (cond v (Some ([], c ∷ bs)) (cond (b == 92) (escaped_in_front (escape c) (double bs)) (in_front b (double (c ∷ bs))))) (Some x) → Kept front x in
    let Q : Bool → Type 0 = λ v. (b == 92) ≡ v → ◌≡◌ {A = Found} (cond v (escaped_in_front (escape c) (double bs)) (in_front b (double (c ∷ bs)))) (Some x) → Kept front x in
    let E : Option ℕ → Type 0 = λ o. (b == 92) ≡ true → escape c ≡ o → escaped_in_front o (double bs) ≡ Some x → Kept front x in
    elim (b == 34) as P [
      | true ↦ (λ t e. ended front (c ∷ bs) 34 b x (omega arith) t u e)
      | false ↦ (λ _ e. elim (b == 92) as Q [
        | true ↦ (λ t e. elim (escape c) as E [
          | None ↦ (λ t o e. absurd cc)
          | Some m ↦ (λ t o e.
              let k = in_front_is m (double bs) x e in
              let s = escape_small c m o in
              let b_small : b < 128 = omega (arith, equals b 92 t) in
              put front m (double bs) x k.0 k.2 k.3 s.1 (utf8_before front (c ∷ bs) b b_small u) (double_kept [] bs k.0 (utf8_tail c bs s.0 (utf8_behind front (c ∷ bs) b b_small u)) k.1))
        ] t refl e)
        | false ↦ (λ t e.
            let k = in_front_is b (double (c ∷ bs)) x e in
            gone_on front b (double (c ∷ bs)) x k.0 k.2 k.3 (double_kept (front ++ b ∷ []) (c ∷ bs) k.0 (moved front bs b c u) k.1))
      ] refl e)
    ] refl e

pub quoted_utf8 : (q : ℕ) (s : List ℕ) (x : List ℕ × List ℕ) → IsUtf8 s → Some x ≡ quoted q s → IsUtf8 x.0 × IsUtf8 x.1
unfolding Kept
quoted_utf8 q s x u e =
    let P : Bool → Type 0 = λ v. Some x ≡ cond v (single s) (double s) → IsUtf8 x.0 × IsUtf8 x.1 in
    elim (q == 39) as P [ true ↦ (λ e. single_kept [] s x u (sym e)) | false ↦ (λ e. double_kept [] s x u (sym e)) ] e

-- ---- the byte order mark, which is one character

mark_is : encode 65279 ≡ 239 ∷ 187 ∷ 191 ∷ []
unfolding encode
mark_is = refl

pub without_mark_utf8 : (bs : List ℕ) → IsUtf8 bs → IsUtf8 (without_mark bs)
without_mark_utf8 [] u = u
without_mark_utf8 (a ∷ []) u = u
without_mark_utf8 (a ∷ b ∷ []) u = u
without_mark_utf8 (a ∷ b ∷ c ∷ rest) u =
    let P : Bool → Type 0 = λ v. (a == 239 && (b == 187 && c == 191)) ≡ v → IsUtf8 (cond v rest (a ∷ b ∷ c ∷ rest)) in
    elim (a == 239 && (b == 187 && c == 191)) as P [
      | true ↦ (λ e.
          let two = and_right (a == 239) (b == 187 && c == 191) e in
          let is : a ∷ b ∷ c ∷ rest ≡ 239 ∷ 187 ∷ 191 ∷ rest = rw (equals a 239 (and_left _ _ e), equals b 187 (and_left _ _ two), equals c 191 (and_right (b == 187) (c == 191) two)) refl in
          IsUtf8-past_char (a ∷ b ∷ c ∷ rest) rest 65279 u (is ∙ sym (ap (λ (m : List ℕ). m ++ rest) mark_is)))
      | false ↦ (λ e. u)
    ] refl
