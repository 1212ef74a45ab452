-- What the text of a job says of its splits.
use Rattle.std.proofs.Common.{◌≡◌, ◌∙◌, ap, sym, subst, refl, ℕ, zero, suc, ◌+◌, ◌/◌, ◌%◌, ◌<◌, ◌≤◌, Bool, true, false, List, [], ◌∷◌, ◌++◌, map, codes, arith, append_assoc, append-nil, Option, Some, None, cond, sum, ap₂, ltb-true, ltb-false}
use Rattle.std.specs.Prelude.{◌||◌, nat_lt, ◌==◌, All}
use Rattle.std.specs.Option.{unwrap_or, option_map, option_map_or}
use Rattle.std.specs.Cmp.{first_so, second_so}
use Rattle.std.specs.List.{flat_map, list_all}
use Rattle.std.specs.Fmt.{decimal, digits, digits_onto, digit_glyph}
use Rattle.std.proofs.lemmas.Bool.Decides.{nat_tests}
use Rattle.std.proofs.lemmas.List.Sums.{sum_by-cons}
use Rattle.std.proofs.lemmas.List.Splits.{slice_split_none, slice_split_at}
use Rattle.proto_wire.specs.Message.{capped}
use Rattle.typed_values.specs.declared.name.TypeName.{TypeName}
use Rattle.typed_values.specs.declared.pattern.TypePattern.{TypePattern}
use Rattle.typed_values.specs.Escape.{escaped, escaped_byte, upper_digit, name_text}
use Rattle.address_routing.specs.declared.module.Module.{Module}
use Rattle.address_routing.specs.declared.module.Endpoint.{Endpoint}
use Rattle.address_routing.specs.declared.module.IngressSpec.{IngressSpec}
use Rattle.address_routing.specs.JobText.{rest_of_line, line, pattern_text, endpoint_words, ingress_words, endpoint_line, ingress_line, egress_line, job_text}
use Rattle.address_routing.specs.Routing as routing
use Rattle.folder_form.specs.Shapes.{lines_of, words_of, number_up_to, splits_of_words, splits_of_line, splits_in, partitions_of_words, partitions_of_lines, partitions_in, shape_in}
use Rattle.checkpoint_drive.specs.Jobs.{only_partition, folder_text}

-- ---- words, whose bytes are above the space

abbrev pub Big : List ℕ → Type 0
Big [] = Unit {0}
Big (byte ∷ bytes) = (32 < byte) × Big bytes

abbrev pub AllBig : List (List ℕ) → Type 0
AllBig [] = Unit {0}
AllBig (word ∷ words) = Big word × AllBig words

pub big_by : (w : List ℕ) → list_all (λ byte. nat_lt 32 byte) w ≡ true → Big w
big_by [] e = tt
big_by (x ∷ w) e = (ltb-true 32 x (first_so (nat_lt 32 x) (list_all (λ byte. nat_lt 32 byte) w) e), big_by w (second_so (nat_lt 32 x) (list_all (λ byte. nat_lt 32 byte) w) e))

pub big_append : (w v : List ℕ) → Big w → Big v → Big (w ++ v)
big_append [] v b c = c
big_append (x ∷ w) v b c = (b.0, big_append w v b.1 c)

glyph_big : (d : ℕ) → 32 < digit_glyph false d
glyph_big d = by (nat_lt d 10)
  where
    by : (t : Bool) → 32 < cond t (48 + d) (87 + d)
    by true = omega arith
    by false = omega arith

onto_big : (k n : ℕ) (acc : List ℕ) → Big acc → Big (digits_onto k 10 false n acc)
onto_big zero n acc b = b
onto_big (suc k) n acc b = by (n / 10 == 0) (onto_big k (n / 10) (digit_glyph false (n % 10) ∷ acc) (glyph_big (n % 10), b))
  where
    by : (t : Bool) → Big (digits_onto k 10 false (n / 10) (digit_glyph false (n % 10) ∷ acc)) → Big (cond t (digit_glyph false (n % 10) ∷ acc) (digits_onto k 10 false (n / 10) (digit_glyph false (n % 10) ∷ acc)))
    by true rest = (glyph_big (n % 10), b)
    by false rest = rest

pub decimal_big : (n : ℕ) → Big (decimal n)
unfolding digits
decimal_big n = onto_big 64 n [] tt

-- ---- words and lines are found again

differs : (mark byte : ℕ) → mark ≤ 32 → 32 < byte → (byte == mark) ≡ false
differs mark byte least big = grind (arith, nat_tests)

first_and : (P : ℕ → Type 0) (x : ℕ) (xs : List ℕ) → P x → All P xs → All P (x ∷ xs)
first_and P x xs here rest zero d less = here
first_and P x xs here rest (suc k) d less = rest k d (omega (arith, less))

not_there : (mark : ℕ) (w : List ℕ) → mark ≤ 32 → Big w → All (λ byte. (byte == mark) ≡ false) w
not_there mark [] least b = λ k d less. absurd (omega (arith, less))
not_there mark (x ∷ w) least b = first_and (λ byte. (byte == mark) ≡ false) x w (differs mark x least b.0) (not_there mark w least b.1)

-- a line without its end
abbrev pub inner : List (List ℕ) → List ℕ
inner [] = []
inner (word ∷ words) = 32 ∷ (word ++ inner words)

pub rest_is : (words : List (List ℕ)) → rest_of_line words ≡ inner words ++ 10 ∷ []
rest_is [] = refl
rest_is (word ∷ words) = ap (λ r. 32 ∷ (word ++ r)) (rest_is words) ∙ ap (λ r. 32 ∷ r) (sym (append_assoc word (inner words) (10 ∷ [])))

pub words_found : (word : List ℕ) (words : List (List ℕ)) → Big word → AllBig words → words_of (word ++ inner words) ≡ word ∷ words
words_found word [] b bs = ap words_of (append-nil word) ∙ slice_split_none (λ byte. byte == 32) word (not_there 32 word (omega arith) b)
words_found word (next ∷ words) b bs =
    slice_split_at (λ byte. byte == 32) word 32 (next ++ inner words) (not_there 32 word (omega arith) b) refl ∙ ap (λ ws. word ∷ ws) (words_found next words bs.0 bs.1)

abbrev Above : List ℕ → Type 0
Above [] = Unit {0}
Above (byte ∷ bytes) = (10 < byte) × Above bytes

above_big : (w v : List ℕ) → Big w → Above v → Above (w ++ v)
above_big [] v b c = c
above_big (x ∷ w) v b c = (omega (arith, b.0), above_big w v b.1 c)

inner_above : (words : List (List ℕ)) → AllBig words → Above (inner words)
inner_above [] b = tt
inner_above (word ∷ words) b = (omega arith, above_big word (inner words) b.0 (inner_above words b.1))

no_end : (v : List ℕ) → Above v → All (λ byte. (byte == 10) ≡ false) v
no_end [] b = λ k d less. absurd (omega (arith, less))
no_end (x ∷ v) b = first_and (λ byte. (byte == 10) ≡ false) x v (above x b.0) (no_end v b.1)
  where
    above : (byte : ℕ) → 10 < byte → (byte == 10) ≡ false
    above byte big = grind (arith, nat_tests)

-- the first line, and those behind it
pub line_found : (word : List ℕ) (words : List (List ℕ)) (rest : List ℕ) → Big word → AllBig words → lines_of (line word words ++ rest) ≡ (word ++ inner words) ∷ lines_of rest
line_found word words rest b bs =
    ap lines_of (ap (λ r. (word ++ r) ++ rest) (rest_is words) ∙ ap (λ r. r ++ rest) (sym (append_assoc word (inner words) (10 ∷ []))) ∙ append_assoc (word ++ inner words) (10 ∷ []) rest)
    ∙ slice_split_at (λ byte. byte == 10) (word ++ inner words) 10 rest (no_end (word ++ inner words) (above_big word (inner words) b (inner_above words bs))) refl

-- ---- numbers

abbrev upto : ℕ → ℕ
upto n = unwrap_or (number_up_to 32 (decimal n)) 0

one_more : (b : ℕ) → upto b ≡ b → ((n : ℕ) → n < b → upto n ≡ n) → (n : ℕ) → n < b + 1 → upto n ≡ n
one_more b here below n less = by (nat_lt n b) refl
  where
    by : (t : Bool) → nat_lt n b ≡ t → upto n ≡ n
    by true e = below n (ltb-true n b e)
    by false e = let least = ltb-false n b e in let same : b ≡ n = omega (arith, least, less) in subst (λ (m : ℕ). upto m ≡ m) same here

pub number_found : (n : ℕ) → n ≤ 32 → upto n ≡ n
unfolding number_up_to digits
number_found n few = (one_more 32 refl (one_more 31 refl (one_more 30 refl (one_more 29 refl (one_more 28 refl (one_more 27 refl (one_more 26 refl (one_more 25 refl (one_more 24 refl (one_more 23 refl (one_more 22 refl (one_more 21 refl (one_more 20 refl (one_more 19 refl (one_more 18 refl (one_more 17 refl (one_more 16 refl (one_more 15 refl (one_more 14 refl (one_more 13 refl (one_more 12 refl (one_more 11 refl (one_more 10 refl (one_more 9 refl (one_more 8 refl (one_more 7 refl (one_more 6 refl (one_more 5 refl (one_more 4 refl (one_more 3 refl (one_more 2 refl (one_more 1 refl (one_more 0 refl (λ n less. absurd (omega (arith, less)))))))))))))))))))))))))))))))))))) n (omega (arith, few))

-- ---- a text of lines

abbrev pub text_of : List (List ℕ × List (List ℕ)) → List ℕ
text_of [] = []
text_of (l ∷ ls) = line l.0 l.1 ++ text_of ls

abbrev pub LinesBig : List (List ℕ × List (List ℕ)) → Type 0
LinesBig [] = Unit {0}
LinesBig (l ∷ ls) = Big l.0 × AllBig l.1 × LinesBig ls

abbrev pub splits_named : List (List ℕ × List (List ℕ)) → ℕ
splits_named [] = 0
splits_named (l ∷ ls) = splits_of_words (l.0 ∷ l.1) + splits_named ls

pub splits_found : (ls : List (List ℕ × List (List ℕ))) → LinesBig ls → sum (map splits_of_line (lines_of (text_of ls))) ≡ splits_named ls
splits_found [] b = refl
splits_found (l ∷ ls) b =
    ap (λ lines. sum (map splits_of_line lines)) (line_found l.0 l.1 (text_of ls) b.0 b.1)
    ∙ sum_by-cons (λ (n : ℕ). n) (splits_of_line (l.0 ++ inner l.1)) (map splits_of_line (lines_of (text_of ls)))
    ∙ ap₂ (λ m n. m + n) (ap splits_of_words (words_found l.0 l.1 b.0 b.1)) (splits_found ls b.2)

-- ---- the first line

pub first_found : (l : List ℕ × List (List ℕ)) (rest : List ℕ) → Big l.0 → AllBig l.1 → partitions_in (line l.0 l.1 ++ rest) ≡ partitions_of_words (l.0 ∷ l.1)
unfolding partitions_in
first_found l rest b bs = ap partitions_of_lines (line_found l.0 l.1 rest b bs) ∙ ap partitions_of_words (words_found l.0 l.1 b bs)

pub one_named : (rest : List ℕ) → partitions_in (only_partition ++ rest) ≡ Some 1
unfolding number_up_to
one_named rest = first_found (codes "partitions", codes "1" ∷ []) rest bigs (ones, tt)
  where
    bigs : Big (codes "partitions")
    bigs = big_by (codes "partitions") refl

    ones : Big (codes "1")
    ones = big_by (codes "1") refl

-- ---- the words of a job

digit_big : (d : ℕ) → 32 < upper_digit d
digit_big d = by (nat_lt d 10)
  where
    by : (t : Bool) → 32 < cond t (48 + d) (55 + d)
    by true = omega arith
    by false = omega arith

byte_big : (b : ℕ) → Big (escaped_byte b)
byte_big b = by (nat_lt b 33 || nat_lt 126 b || b == 37) refl
  where
    by : (t : Bool) → (nat_lt b 33 || nat_lt 126 b || b == 37) ≡ t → Big (cond t (37 ∷ upper_digit (b / 16) ∷ upper_digit (b % 16) ∷ []) (b ∷ []))
    by true e = (omega arith, (digit_big (b / 16), (digit_big (b % 16), tt)))
    by false e = (grind (arith, nat_tests), tt)

escaped_big : (bs : List ℕ) → Big (escaped bs)
escaped_big [] = tt
escaped_big (b ∷ bs) = big_append (escaped_byte b) (escaped bs) (byte_big b) (escaped_big bs)

name_big : (name : TypeName) → Big (name_text name)
name_big name = big_append (escaped name.namespace) (47 ∷ escaped name.name) (escaped_big name.namespace) (omega arith, escaped_big name.name)

pattern_big : (pattern : TypePattern) → Big (pattern_text pattern)
pattern_big pattern = big_append (escaped pattern.namespace) (47 ∷ option_map_or escaped pattern.name (codes "*")) (escaped_big pattern.namespace) (omega arith, by pattern.name)
  where
    by : (name : Option (List ℕ)) → Big (option_map_or escaped name (codes "*"))
    by None = (omega arith, tt)
    by (Some name) = escaped_big name

names_big : (names : List TypeName) → AllBig (map name_text names)
names_big [] = tt
names_big (name ∷ names) = (name_big name, names_big names)

-- ---- its lines

abbrev Line : Type 0
Line = List ℕ × List (List ℕ)

abbrev of_endpoint : Endpoint → Line
of_endpoint e = (codes "endpoint", endpoint_words e)

abbrev of_ingress : IngressSpec → Line
of_ingress i = (codes "ingress", ingress_words i)

abbrev of_egress : TypeName → Line
of_egress name = (codes "egress", name_text name ∷ [])

endpoint_big : (e : Endpoint) → AllBig (endpoint_words e)
endpoint_big e = (pattern_big e.pattern, (escaped_big e.template, (decimal_big e.max_letters, (decimal_big e.max_bytes, (decimal_big e.attempts, (decimal_big e.patience, tt))))))

ingress_big : (i : IngressSpec) → AllBig (ingress_words i)
ingress_big i = (name_big i.id, (decimal_big i.splits, (escaped_big i.value_type, names_big i.targets)))

lines_append : (ls ms : List Line) → text_of (ls ++ ms) ≡ text_of ls ++ text_of ms
lines_append [] ms = refl
lines_append (l ∷ ls) ms = ap (λ (r : List ℕ). line l.0 l.1 ++ r) (lines_append ls ms) ∙ sym (append_assoc (line l.0 l.1) (text_of ls) (text_of ms))

named_append : (ls ms : List Line) → splits_named (ls ++ ms) ≡ splits_named ls + splits_named ms
named_append [] ms = omega arith
named_append (l ∷ ls) ms = let rest = named_append ls ms in omega (arith, rest)

big_lines : (ls ms : List Line) → LinesBig ls → LinesBig ms → LinesBig (ls ++ ms)
big_lines [] ms b c = c
big_lines (l ∷ ls) ms b c = (b.0, b.1, big_lines ls ms b.2 c)

endpoints_text : (es : List Endpoint) → flat_map endpoint_line es ≡ text_of (map of_endpoint es)
endpoints_text [] = refl
endpoints_text (e ∷ es) = ap (λ (r : List ℕ). endpoint_line e ++ r) (endpoints_text es)

ingresses_text : (is : List IngressSpec) → flat_map ingress_line is ≡ text_of (map of_ingress is)
ingresses_text [] = refl
ingresses_text (i ∷ is) = ap (λ (r : List ℕ). ingress_line i ++ r) (ingresses_text is)

egresses_text : (names : List TypeName) → flat_map egress_line names ≡ text_of (map of_egress names)
egresses_text [] = refl
egresses_text (name ∷ names) = ap (λ (r : List ℕ). egress_line name ++ r) (egresses_text names)

endpoints_big : (es : List Endpoint) → LinesBig (map of_endpoint es)
endpoints_big [] = tt
endpoints_big (e ∷ es) = (big_by (codes "endpoint") refl, endpoint_big e, endpoints_big es)

ingresses_big : (is : List IngressSpec) → LinesBig (map of_ingress is)
ingresses_big [] = tt
ingresses_big (i ∷ is) = (big_by (codes "ingress") refl, ingress_big i, ingresses_big is)

egresses_big : (names : List TypeName) → LinesBig (map of_egress names)
egresses_big [] = tt
egresses_big (name ∷ names) = (big_by (codes "egress") refl, (name_big name, tt), egresses_big names)

endpoints_name : (es : List Endpoint) → splits_named (map of_endpoint es) ≡ 0
endpoints_name [] = refl
endpoints_name (e ∷ es) = let rest = endpoints_name es in omega (arith, rest)

egresses_name : (names : List TypeName) → splits_named (map of_egress names) ≡ 0
egresses_name [] = refl
egresses_name (name ∷ names) = let rest = egresses_name names in omega (arith, rest)

ingresses_name : (is : List IngressSpec) → routing.splits_in is ≤ 32 → splits_named (map of_ingress is) ≡ routing.splits_in is
ingresses_name [] few = refl
ingresses_name (i ∷ is) few =
    let here = number_found i.splits (omega (arith, few)) in
    let rest = ingresses_name is (omega (arith, few)) in
    omega (arith, here, rest)

-- ---- the whole text

abbrev lines_in : Module → List Line
lines_in m = map of_endpoint m.endpoints ++ (map of_ingress m.ingresses ++ map of_egress m.egresses)

text_is : (m : Module) → job_text m ≡ text_of (lines_in m)
unfolding job_text
text_is m =
    ap₂ (λ (a b : List ℕ). a ++ b) (endpoints_text m.endpoints) (ap₂ (λ (a b : List ℕ). a ++ b) (ingresses_text m.ingresses) (egresses_text m.egresses) ∙ sym (lines_append (map of_ingress m.ingresses) (map of_egress m.egresses)))
    ∙ sym (lines_append (map of_endpoint m.endpoints) (map of_ingress m.ingresses ++ map of_egress m.egresses))

lines_big : (m : Module) → LinesBig (lines_in m)
lines_big m = big_lines (map of_endpoint m.endpoints) (map of_ingress m.ingresses ++ map of_egress m.egresses) (endpoints_big m.endpoints) (big_lines (map of_ingress m.ingresses) (map of_egress m.egresses) (ingresses_big m.ingresses) (egresses_big m.egresses))

lines_name : (m : Module) → routing.splits_in m.ingresses ≤ 32 → splits_named (lines_in m) ≡ routing.splits_in m.ingresses
lines_name m few =
    let a = named_append (map of_endpoint m.endpoints) (map of_ingress m.ingresses ++ map of_egress m.egresses) in
    let b = named_append (map of_ingress m.ingresses) (map of_egress m.egresses) in
    let c = endpoints_name m.endpoints in
    let d = ingresses_name m.ingresses few in
    let e = egresses_name m.egresses in
    omega (arith, a, b, c, d, e)

abbrev first_line : Line
first_line = (codes "partitions", codes "1" ∷ [])

splits_are : (m : Module) → routing.splits_in m.ingresses ≤ 32 → splits_in (folder_text m) ≡ routing.splits_in m.ingresses
unfolding splits_in
splits_are m few =
    let whole : folder_text m ≡ text_of (first_line ∷ lines_in m) = ap (λ (r : List ℕ). only_partition ++ r) (text_is m) in
    let found = splits_found (first_line ∷ lines_in m) (big_by (codes "partitions") refl, (big_by (codes "1") refl, tt), lines_big m) in
    let rest = lines_name m few in
    let named : splits_named (first_line ∷ lines_in m) ≡ routing.splits_in m.ingresses = omega (arith, rest) in
    let all : sum (map splits_of_line (lines_of (folder_text m))) ≡ routing.splits_in m.ingresses = ap (λ (t : List ℕ). sum (map splits_of_line (lines_of t))) whole ∙ found ∙ named in
    ap capped all ∙ omega (arith, few)

pub partitions_are_one : (m : Module) → partitions_in (folder_text m) ≡ Some 1
partitions_are_one m = one_named (job_text m)

-- what the text of a folder's job says of it
pub folder_shape : (m : Module) → routing.splits_in m.ingresses ≤ 32 → shape_in (folder_text m) ≡ Some (record { partitions = 1; splits = routing.splits_in m.ingresses })
unfolding shape_in
folder_shape m few =
    ap (option_map (λ (partitions : ℕ). record { partitions = partitions; splits = splits_in (folder_text m) })) (partitions_are_one m)
    ∙ ap (λ (splits : ℕ). Some (record { partitions = 1; splits = splits })) (splits_are m few)
