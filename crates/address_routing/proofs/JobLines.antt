-- A module is told by its text: lines, words, and what they stand for.
use Rattle.std.proofs.Common.{◌≡◌, ◌∙◌, ap, ap₂, sym, subst, refl, ℕ, zero, suc, ◌+◌, ◌*◌, ◌/◌, ◌%◌, ◌^◌, ◌<◌, ◌≤◌, Bool, true, false, not, true≢false, List, [], ◌∷◌, ◌++◌, map, codes, arith, append_assoc, Option, Some, None, cond}
use Rattle.std.specs.Prelude.{◌&&◌, ◌||◌, nat_lt, nat_eq, ◌==◌, if◌then◌else◌}
use Rattle.std.specs.Option.{option_map_or}
use Rattle.std.specs.List.{flat_map, list_any, list_all}
use Rattle.std.specs.Fmt.{decimal}
use Rattle.std.specs.Str.{bytes_eq}
use Rattle.std.specs.Str.Parse.{AllDigits}
use Rattle.std.proofs.lemmas.Fmt.{decimal_injective, decimal_is_IsNumeral}
use Rattle.std.proofs.lemmas.Bool.Decides.{nat_tests}
use Rattle.std.proofs.lemmas.Slice.Eq.{bytes_eq-Decides}
use Rattle.typed_values.specs.declared.name.TypeName.{TypeName}
use Rattle.typed_values.specs.declared.pattern.TypePattern.{TypePattern}
use Rattle.typed_values.specs.Escape.{escaped, escaped_byte, upper_digit, name_text}
use Rattle.address_routing.specs.declared.module.Module.{Module}
use Rattle.address_routing.specs.declared.module.Endpoint.{Endpoint}
use Rattle.address_routing.specs.declared.module.IngressSpec.{IngressSpec}
use Rattle.address_routing.specs.Plain.{is_plain_name, is_plain_pattern, is_number, is_plain_endpoint, is_plain_ingress, is_plain, TextTellsModule}
use Rattle.address_routing.proofs.JobWords.{same_escape, same_name_text, same_pattern_text}
use Rattle.address_routing.specs.JobText.{rest_of_line, line, pattern_text, endpoint_words, ingress_words, endpoint_line, ingress_line, egress_line, job_text}

-- ---- words: their bytes are above the space

abbrev big : List ℕ → Bool
big word = list_all (λ byte. nat_lt 32 byte) word

and-left : (a b : Bool) → (a && b) ≡ true → a ≡ true
and-left true b e = refl
and-left false b e = absurd (true≢false (sym e))

and-right : (a b : Bool) → (a && b) ≡ true → b ≡ true
and-right true b e = e
and-right false b e = absurd (true≢false (sym e))

big-append : (w v : List ℕ) → big w ≡ true → big v ≡ true → big (w ++ v) ≡ true
big-append [] v e f = f
big-append (b ∷ w) v e f = λ i. and-left (nat_lt 32 b) (big w) e i && big-append w v (and-right (nat_lt 32 b) (big w) e) f i

lt-true : (a b : ℕ) → a < b → nat_lt a b ≡ true
lt-true a b h = grind (arith, nat_tests)

digit-big : (d : ℕ) → nat_lt 32 (upper_digit d) ≡ true
digit-big d = go (nat_lt d 10) refl
  where
    go : (t : Bool) → nat_lt d 10 ≡ t → nat_lt 32 (cond t (48 + d) (55 + d)) ≡ true
    go true e = lt-true 32 (48 + d) (omega arith)
    go false e = lt-true 32 (55 + d) (omega arith)

abbrev is_odd_byte : ℕ → Bool
is_odd_byte b = nat_lt b 33 || nat_lt 126 b || b == 37

byte-big : (b : ℕ) → big (escaped_byte b) ≡ true
byte-big b = go (is_odd_byte b) refl
  where
    go : (t : Bool) → is_odd_byte b ≡ t → big (cond t (37 ∷ upper_digit (b / 16) ∷ upper_digit (b % 16) ∷ []) (b ∷ [])) ≡ true
    go true e = λ i. digit-big (b / 16) i && (digit-big (b % 16) i && true)
    go false e = grind (arith, nat_tests)

escaped-big : (bs : List ℕ) → big (escaped bs) ≡ true
escaped-big [] = refl
escaped-big (b ∷ bs) = big-append (escaped_byte b) (escaped bs) (byte-big b) (escaped-big bs)

digits-big : (ds : List ℕ) → AllDigits 10 ds → big ds ≡ true
digits-big [] h = refl
digits-big (d ∷ ds) h = λ i. one i && digits-big ds h.1 i
  where
    above : (t : Bool) (rest : ℕ) → nat_lt d 48 ≡ t → cond t 36 rest < 10 → 32 < d
    above true rest e k = absurd (omega arith)
    above false rest e k = grind (arith, nat_tests)

    one : nat_lt 32 d ≡ true
    one = lt-true 32 d (above (nat_lt d 48) _ refl h.0)

decimal-big : (n : ℕ) → n < 2 ^ 64 → big (decimal n) ≡ true
decimal-big n h = digits-big (decimal n) (decimal_is_IsNumeral n h).0.1

-- ---- words of a line are told by it

-- words that end at a space or less are the same
same_front : (w v r s : List ℕ) (a b : ℕ) → big w ≡ true → big v ≡ true → a ≤ 32 → b ≤ 32 → w ++ (a ∷ r) ≡ v ++ (b ∷ s) → (w ≡ v) × (a ∷ r ≡ b ∷ s)
same_front [] [] r s a b bw bv la lb e = (refl, e)
same_front [] (y ∷ v) r s a b bw bv la lb e = absurd (let h : a ≡ y = cc in let k = and-left (nat_lt 32 y) (big v) bv in grind (arith, nat_tests))
same_front (x ∷ w) [] r s a b bw bv la lb e = absurd (let h : x ≡ b = cc in let k = and-left (nat_lt 32 x) (big w) bw in grind (arith, nat_tests))
same_front (x ∷ w) (y ∷ v) r s a b bw bv la lb e =
    let h : x ≡ y = cc in
    let t : w ++ (a ∷ r) ≡ v ++ (b ∷ s) = cc in
    let rest = same_front w v r s a b (and-right (nat_lt 32 x) (big w) bw) (and-right (nat_lt 32 y) (big v) bv) la lb t in
    ((λ i. h i ∷ rest.0 i), rest.1)

abbrev all_big : List (List ℕ) → Bool
all_big words = list_all big words

-- the rest of a line, with something behind it, begins with a space or a line's end
same_word : (w v : List ℕ) (ws vs : List (List ℕ)) (r s : List ℕ) → big w ≡ true → big v ≡ true → w ++ (rest_of_line ws ++ r) ≡ v ++ (rest_of_line vs ++ s) → (w ≡ v) × (rest_of_line ws ++ r ≡ rest_of_line vs ++ s)
same_word w v [] [] r s bw bv e = same_front w v r s 10 10 bw bv (omega arith) (omega arith) e
same_word w v [] (y ∷ vs) r s bw bv e = same_front w v r ((y ++ rest_of_line vs) ++ s) 10 32 bw bv (omega arith) (omega arith) e
same_word w v (x ∷ ws) [] r s bw bv e = same_front w v ((x ++ rest_of_line ws) ++ r) s 32 10 bw bv (omega arith) (omega arith) e
same_word w v (x ∷ ws) (y ∷ vs) r s bw bv e = same_front w v ((x ++ rest_of_line ws) ++ r) ((y ++ rest_of_line vs) ++ s) 32 32 bw bv (omega arith) (omega arith) e

same_rest : (ws vs : List (List ℕ)) (r s : List ℕ) → all_big ws ≡ true → all_big vs ≡ true → rest_of_line ws ++ r ≡ rest_of_line vs ++ s → (ws ≡ vs) × (r ≡ s)
same_rest [] [] r s bw bv e = (refl, cc)
same_rest [] (v ∷ vs) r s bw bv e = absurd (let h : ◌≡◌ {A = ℕ} 10 32 = cc in omega (arith, h))
same_rest (w ∷ ws) [] r s bw bv e = absurd (let h : ◌≡◌ {A = ℕ} 32 10 = cc in omega (arith, h))
same_rest (w ∷ ws) (v ∷ vs) r s bw bv e =
    let t : (w ++ rest_of_line ws) ++ r ≡ (v ++ rest_of_line vs) ++ s = cc in
    let one = same_word w v ws vs r s (and-left (big w) (all_big ws) bw) (and-left (big v) (all_big vs) bv) (sym (append_assoc w (rest_of_line ws) r) ∙ t ∙ append_assoc v (rest_of_line vs) s) in
    let rest = same_rest ws vs r s (and-right (big w) (all_big ws) bw) (and-right (big v) (all_big vs) bv) one.1 in
    ((λ i. one.0 i ∷ rest.0 i), rest.1)

-- ---- lines of a text are told by it: a line is its first word and the others

abbrev text_of : List (List ℕ × List (List ℕ)) → List ℕ
text_of [] = []
text_of (l ∷ ls) = line l.0 l.1 ++ text_of ls

abbrev lines_big : List (List ℕ × List (List ℕ)) → Bool
lines_big ls = list_all (λ l. big l.0 && all_big l.1) ls

no_line : (w : List ℕ) (ws : List (List ℕ)) (r : List ℕ) → [] ≡ (w ++ rest_of_line ws) ++ r → ⊥
no_line [] [] r e = cc
no_line [] (x ∷ ws) r e = cc
no_line (b ∷ w) ws r e = cc

same_lines : (ls ms : List (List ℕ × List (List ℕ))) → lines_big ls ≡ true → lines_big ms ≡ true → text_of ls ≡ text_of ms → ls ≡ ms
same_lines [] [] bl bm e = refl
same_lines [] (m ∷ ms) bl bm e = absurd (no_line m.0 m.1 (text_of ms) e)
same_lines (l ∷ ls) [] bl bm e = absurd (no_line l.0 l.1 (text_of ls) (sym e))
same_lines (l ∷ ls) (m ∷ ms) bl bm e =
    let here_l = and-left (big l.0 && all_big l.1) (lines_big ls) bl in
    let here_m = and-left (big m.0 && all_big m.1) (lines_big ms) bm in
    let one = same_word l.0 m.0 l.1 m.1 (text_of ls) (text_of ms) (and-left (big l.0) (all_big l.1) here_l) (and-left (big m.0) (all_big m.1) here_m)
    (sym (append_assoc l.0 (rest_of_line l.1) (text_of ls)) ∙ e ∙ append_assoc m.0 (rest_of_line m.1) (text_of ms)) in
    let words = same_rest l.1 m.1 (text_of ls) (text_of ms) (and-right (big l.0) (all_big l.1) here_l) (and-right (big m.0) (all_big m.1) here_m) one.1 in
    let rest = same_lines ls ms (and-right (big l.0 && all_big l.1) (lines_big ls) bl) (and-right (big m.0 && all_big m.1) (lines_big ms) bm) words.1 in
    λ i. (one.0 i, words.0 i) ∷ rest i

text-append : (ls ms : List (List ℕ × List (List ℕ))) → text_of (ls ++ ms) ≡ text_of ls ++ text_of ms
text-append [] ms = refl
text-append (l ∷ ls) ms = ap (λ t. line l.0 l.1 ++ t) (text-append ls ms) ∙ sym (append_assoc (line l.0 l.1) (text_of ls) (text_of ms))

module _ {A : Type 0} (key : List ℕ) (words : A → List (List ℕ)) where
  pub lines : List A → List (List ℕ × List (List ℕ))
  lines [] = []
  lines (x ∷ xs) = (key, words x) ∷ lines xs

  pub text-lines : (xs : List A) → text_of (lines xs) ≡ flat_map (λ x. line key (words x)) xs
  unfolding lines
  text-lines [] = refl
  text-lines (x ∷ xs) = ap (λ t. line key (words x) ++ t) (text-lines xs)

  pub lines_are_big : (plain : A → Bool) → big key ≡ true → ((x : A) → plain x ≡ true → all_big (words x) ≡ true) → (xs : List A) → list_all plain xs ≡ true → lines_big (lines xs) ≡ true
  unfolding lines
  lines_are_big plain bk one [] h = refl
  lines_are_big plain bk one (x ∷ xs) h = λ i. (bk i && one x (and-left (plain x) (list_all plain xs) h) i) && lines_are_big plain bk one xs (and-right (plain x) (list_all plain xs) h) i

-- ---- a part of a text is told by its lines

abbrev Lines : Type 0
Lines = List (List ℕ × List (List ℕ))

-- no line with this first word comes next
abbrev NotFirst : List ℕ → Lines → Type 0
NotFirst key [] = Unit {0}
NotFirst key (l ∷ ls) = l.0 ≡ key → ⊥

module _ {A : Type 0} (key : List ℕ) (words : A → List (List ℕ)) where
  first_is : (x : A) (xs : List A) (ms rest : Lines) → ms ≡ (key, words x) ∷ rest → NotFirst key ms → ⊥
  first_is x xs [] rest e other = cc
  first_is x xs (m ∷ ms) rest e other = let h : m ≡ (key, words x) = cc in other (ap (λ l. l.0) h)

  pub split : (plain : A → Bool) → ((x y : A) → plain x ≡ true → plain y ≡ true → words x ≡ words y → x ≡ y) →
      (xs ys : List A) (rs ss : Lines) → list_all plain xs ≡ true → list_all plain ys ≡ true → NotFirst key rs → NotFirst key ss →
      lines key words xs ++ rs ≡ lines key words ys ++ ss → (xs ≡ ys) × (rs ≡ ss)
  unfolding lines
  split plain one [] [] rs ss px py nr ns e = (refl, e)
  split plain one [] (y ∷ ys) rs ss px py nr ns e = absurd (first_is y ys rs (lines key words ys ++ ss) e nr)
  split plain one (x ∷ xs) [] rs ss px py nr ns e = absurd (first_is x xs ss (lines key words xs ++ rs) (sym e) ns)
  split plain one (x ∷ xs) (y ∷ ys) rs ss px py nr ns e =
      let h : ◌≡◌ {A = List ℕ × List (List ℕ)} (key, words x) (key, words y) = cc in
      let w = ap (λ (l : List ℕ × List (List ℕ)). l.1) h in
      let t : lines key words xs ++ rs ≡ lines key words ys ++ ss = cc in
      let here = one x y (and-left (plain x) (list_all plain xs) px) (and-left (plain y) (list_all plain ys) py) w in
      let rest = split plain one xs ys rs ss (and-right (plain x) (list_all plain xs) px) (and-right (plain y) (list_all plain ys) py) nr ns t in
      ((λ i. here i ∷ rest.0 i), rest.1)

-- ---- what the words of each kind tell

below : (n : ℕ) → is_number n ≡ true → n < 2 ^ 64
below n h = grind (arith, nat_tests)

same_number : (m n : ℕ) → is_number m ≡ true → is_number n ≡ true → decimal m ≡ decimal n → m ≡ n
same_number m n hm hn e = decimal_injective m n (below m hm) (below n hn) e

pattern-big : (p : TypePattern) → big (pattern_text p) ≡ true
pattern-big p = big-append (escaped p.namespace) (47 ∷ option_map_or escaped p.name (codes "*")) (escaped-big p.namespace) (go p.name)
  where
    go : (name : Option (List ℕ)) → big (47 ∷ option_map_or escaped name (codes "*")) ≡ true
    go None = refl
    go (Some name) = escaped-big name

name-big : (n : TypeName) → big (name_text n) ≡ true
name-big n = big-append (escaped n.namespace) (47 ∷ escaped n.name) (escaped-big n.namespace) (escaped-big n.name)

names-big : (ns : List TypeName) → all_big (map name_text ns) ≡ true
names-big [] = refl
names-big (n ∷ ns) = λ i. name-big n i && names-big ns i

pub record Numbers (e : Endpoint) : Type 0 where
  pub letters : is_number e.max_letters ≡ true
  pub bytes : is_number e.max_bytes ≡ true
  pub attempts : is_number e.attempts ≡ true
  pub patience : is_number e.patience ≡ true

numbers_of : (e : Endpoint) → is_plain_endpoint e ≡ true → Numbers e
numbers_of e h =
    let one = and-right (is_plain_pattern e.pattern) _ h in
    let two = and-right (is_number e.max_letters) _ one in
    let three = and-right (is_number e.max_bytes) _ two in
    record {
      letters = and-left (is_number e.max_letters) _ one;
      bytes = and-left (is_number e.max_bytes) _ two;
      attempts = and-left (is_number e.attempts) _ three;
      patience = and-right (is_number e.attempts) _ three;
    }

number-big : (n : ℕ) → is_number n ≡ true → big (decimal n) ≡ true
number-big n h = decimal-big n (below n h)

endpoint-big : (e : Endpoint) → is_plain_endpoint e ≡ true → all_big (endpoint_words e) ≡ true
endpoint-big e h =
    let n = numbers_of e h in
    λ i. pattern-big e.pattern i && (escaped-big e.template i && (number-big e.max_letters n.letters i && (number-big e.max_bytes n.bytes i && (number-big e.attempts n.attempts i && (number-big e.patience n.patience i && true)))))

ingress-big : (g : IngressSpec) → is_plain_ingress g ≡ true → all_big (ingress_words g) ≡ true
ingress-big g h =
    let splits = and-left (is_number g.splits) _ (and-right (is_plain_name g.id) _ h) in
    λ i. name-big g.id i && (number-big g.splits splits i && (escaped-big g.value_type i && names-big g.targets i))

egress-big : (n : TypeName) → is_plain_name n ≡ true → all_big (name_text n ∷ []) ≡ true
egress-big n h = λ i. name-big n i && true

same_endpoint : (e f : Endpoint) → is_plain_endpoint e ≡ true → is_plain_endpoint f ≡ true → endpoint_words e ≡ endpoint_words f → e ≡ f
same_endpoint e f he hf w =
    let ne = numbers_of e he in let nf = numbers_of f hf in
    let pattern = same_pattern_text e.pattern f.pattern (and-left (is_plain_pattern e.pattern) _ he) (and-left (is_plain_pattern f.pattern) _ hf) cc in
    let template = same_escape e.template f.template cc in
    let letters = same_number e.max_letters f.max_letters ne.letters nf.letters cc in
    let bytes = same_number e.max_bytes f.max_bytes ne.bytes nf.bytes cc in
    let attempts = same_number e.attempts f.attempts ne.attempts nf.attempts cc in
    let patience = same_number e.patience f.patience ne.patience nf.patience cc in
    (λ i. record { pattern = pattern i; template = template i; max_letters = letters i; max_bytes = bytes i; attempts = attempts i; patience = patience i })

same_names : (ms ns : List TypeName) → list_all is_plain_name ms ≡ true → list_all is_plain_name ns ≡ true → map name_text ms ≡ map name_text ns → ms ≡ ns
same_names [] [] hm hn e = refl
same_names [] (n ∷ ns) hm hn e = absurd cc
same_names (m ∷ ms) [] hm hn e = absurd cc
same_names (m ∷ ms) (n ∷ ns) hm hn e =
    let t : map name_text ms ≡ map name_text ns = cc in
    let here = same_name_text m n (and-left (is_plain_name m) (list_all is_plain_name ms) hm) (and-left (is_plain_name n) (list_all is_plain_name ns) hn) cc in
    let rest = same_names ms ns (and-right (is_plain_name m) (list_all is_plain_name ms) hm) (and-right (is_plain_name n) (list_all is_plain_name ns) hn) t in
    λ i. here i ∷ rest i

same_ingress : (g h : IngressSpec) → is_plain_ingress g ≡ true → is_plain_ingress h ≡ true → ingress_words g ≡ ingress_words h → g ≡ h
same_ingress g h pg ph w =
    let rg = and-right (is_plain_name g.id) _ pg in let rh = and-right (is_plain_name h.id) _ ph in
    let id = same_name_text g.id h.id (and-left (is_plain_name g.id) _ pg) (and-left (is_plain_name h.id) _ ph) cc in
    let splits = same_number g.splits h.splits (and-left (is_number g.splits) _ rg) (and-left (is_number h.splits) _ rh) cc in
    let value_type = same_escape g.value_type h.value_type cc in
    let t : map name_text g.targets ≡ map name_text h.targets = cc in
    let targets = same_names g.targets h.targets (and-right (is_number g.splits) _ rg) (and-right (is_number h.splits) _ rh) t in
    (λ i. record { id = id i; splits = splits i; value_type = value_type i; targets = targets i })

same_egress : (m n : TypeName) → is_plain_name m ≡ true → is_plain_name n ≡ true → (name_text m ∷ []) ≡ (name_text n ∷ []) → m ≡ n
same_egress m n pm pn w = same_name_text m n pm pn cc

-- ---- the whole text

abbrev later_lines : Module → Lines
later_lines m = lines (codes "ingress") ingress_words m.ingresses ++ lines (codes "egress") (λ n. name_text n ∷ []) m.egresses

abbrev job_lines : Module → Lines
job_lines m = lines (codes "endpoint") endpoint_words m.endpoints ++ later_lines m

text-job : (m : Module) → text_of (job_lines m) ≡ job_text m
unfolding job_text
text-job m =
    text-append (lines (codes "endpoint") endpoint_words m.endpoints) (later_lines m)
    ∙ ap₂ (λ a b. a ++ b) (text-lines (codes "endpoint") endpoint_words m.endpoints)
    (text-append (lines (codes "ingress") ingress_words m.ingresses) (lines (codes "egress") (λ n. name_text n ∷ []) m.egresses)
    ∙ ap₂ (λ a b. a ++ b) (text-lines (codes "ingress") ingress_words m.ingresses) (text-lines (codes "egress") (λ n. name_text n ∷ []) m.egresses))

lines-big-append : (ls ms : Lines) → lines_big ls ≡ true → lines_big ms ≡ true → lines_big (ls ++ ms) ≡ true
lines-big-append [] ms e f = f
lines-big-append (l ∷ ls) ms e f = λ i. and-left (big l.0 && all_big l.1) (lines_big ls) e i && lines-big-append ls ms (and-right (big l.0 && all_big l.1) (lines_big ls) e) f i

pub record Plains (m : Module) : Type 0 where
  pub endpoints : list_all is_plain_endpoint m.endpoints ≡ true
  pub ingresses : list_all is_plain_ingress m.ingresses ≡ true
  pub egresses : list_all is_plain_name m.egresses ≡ true

plains_of : (m : Module) → is_plain m ≡ true → Plains m
unfolding is_plain
plains_of m h = let later = and-right (list_all is_plain_endpoint m.endpoints) _ h in record {
  endpoints = and-left (list_all is_plain_endpoint m.endpoints) _ h;
  ingresses = and-left (list_all is_plain_ingress m.ingresses) _ later;
  egresses = and-right (list_all is_plain_ingress m.ingresses) _ later;
}

job-big : (m : Module) → Plains m → lines_big (job_lines m) ≡ true
job-big m p =
    lines-big-append (lines (codes "endpoint") endpoint_words m.endpoints) (later_lines m)
    (lines_are_big (codes "endpoint") endpoint_words is_plain_endpoint refl endpoint-big m.endpoints p.endpoints)
    (lines-big-append (lines (codes "ingress") ingress_words m.ingresses) (lines (codes "egress") (λ n. name_text n ∷ []) m.egresses)
    (lines_are_big (codes "ingress") ingress_words is_plain_ingress refl ingress-big m.ingresses p.ingresses)
    (lines_are_big (codes "egress") (λ n. name_text n ∷ []) is_plain_name refl egress-big m.egresses p.egresses))

egress_is_no : (key : List ℕ) → (codes "egress" ≡ key → ⊥) → (ns : List TypeName) → NotFirst key (lines (codes "egress") (λ n. name_text n ∷ []) ns)
unfolding lines
egress_is_no key other [] = tt
egress_is_no key other (n ∷ ns) = other

later_is_no : (is : List IngressSpec) (ns : List TypeName) → NotFirst (codes "endpoint") (lines (codes "ingress") ingress_words is ++ lines (codes "egress") (λ n. name_text n ∷ []) ns)
unfolding lines
later_is_no [] ns = egress_is_no (codes "endpoint") (λ e. cc) ns
later_is_no (g ∷ is) ns = λ e. cc

ends-nil : (ls : Lines) → ls ++ [] ≡ ls
ends-nil [] = refl
ends-nil (l ∷ ls) = λ i. l ∷ ends-nil ls i

pub text_tells_module : TextTellsModule
text_tells_module m n pm pn e =
    let am = plains_of m pm in let an = plains_of n pn in
    let same = same_lines (job_lines m) (job_lines n) (job-big m am) (job-big n an) (text-job m ∙ e ∙ sym (text-job n)) in
    let first = split (codes "endpoint") endpoint_words is_plain_endpoint same_endpoint m.endpoints n.endpoints (later_lines m) (later_lines n) am.endpoints an.endpoints
    (later_is_no m.ingresses m.egresses) (later_is_no n.ingresses n.egresses) same in
    let second = split (codes "ingress") ingress_words is_plain_ingress same_ingress m.ingresses n.ingresses
    (lines (codes "egress") (λ n. name_text n ∷ []) m.egresses) (lines (codes "egress") (λ n. name_text n ∷ []) n.egresses) am.ingresses an.ingresses
    (egress_is_no (codes "ingress") (λ e. cc) m.egresses) (egress_is_no (codes "ingress") (λ e. cc) n.egresses) first.1 in
    let third = split (codes "egress") (λ n. name_text n ∷ []) is_plain_name same_egress m.egresses n.egresses [] [] am.egresses an.egresses tt tt
    (ends-nil (lines (codes "egress") (λ n. name_text n ∷ []) m.egresses) ∙ second.1 ∙ sym (ends-nil (lines (codes "egress") (λ n. name_text n ∷ []) n.egresses))) in
    (first.0, second.0, third.0)
