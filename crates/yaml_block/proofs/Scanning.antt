-- Going over the bytes of a line.
use Rattle.std.proofs.Common.{◌≡◌, ℕ, ◌+◌, ◌-◌, ◌≤◌, ◌<◌, Bool, true, false, ◌&&◌, ◌==◌, cond, List, [], ◌∷◌, ◌++◌, length, take, drop, get_or, Option, Some, None, refl, sym, ap, ◌∙◌, append_assoc, arith}
use Rattle.std.proofs.lemmas.Bool.Decides.{nat_tests}
use Rattle.std.specs.Option.{option_map}
use Rattle.std.proofs.lemmas.List.{take_at, drop_at, take-append-drop, length-append, length-drop, take_more, drop_more}
use Rattle.yaml_block.specs.Scalars.{is_white, past_white, is_end, is_gap, plain, in_front, cut_at_colon}

-- what is found in a text: something before a place, and what follows
abbrev pub Found : Type 0
Found = Option (List ℕ × List ℕ)

-- with bytes in front that were passed before
abbrev pub passed : List ℕ → Found → Found
passed front found = option_map (λ x. (front ++ x.0, x.1)) found

passed-none : (f : Found) → passed [] f ≡ f
passed-none None = refl
passed-none (Some x) = refl

passed_two : (a b : List ℕ) (f : Found) → passed a (passed b f) ≡ passed (a ++ b) f
passed_two a b None = refl
passed_two a b (Some x) = ap (λ (ns : List ℕ). Some (ns, x.1)) (simp append_assoc)

pub passed_one : (a : List ℕ) (b : ℕ) (f : Found) → passed a (in_front b f) ≡ passed (a ++ b ∷ []) f
passed_one a b None = refl
passed_one a b (Some x) = ap (λ (ns : List ℕ). Some (ns, x.1)) (simp append_assoc)

in_front-passed : (b : ℕ) (a : List ℕ) (f : Found) → in_front b (passed a f) ≡ passed (b ∷ a) f
in_front-passed b a None = refl
in_front-passed b a (Some x) = refl

-- ---- a run of white space

-- the white space that a text begins with
abbrev pub run : List ℕ → List ℕ
run [] = []
run (b ∷ bs) = cond (is_white b) (b ∷ run bs) []

run_first : (s : List ℕ) → s ≡ run s ++ past_white s
run_first [] = refl
run_first (b ∷ bs) =
    let P : Bool → Type 0 = λ v. ◌≡◌ {A = List ℕ} (b ∷ bs) (cond v (b ∷ run bs) [] ++ cond v (past_white bs) (b ∷ bs)) in
    elim (is_white b) as P [ true ↦ ap (λ (r : List ℕ). b ∷ r) (run_first bs) | false ↦ refl ]

-- Before something that is no end, a run belongs to the plain scalar,
plain-run : (s : List ℕ) → is_end (past_white s) ≡ false → plain s ≡ run s ++ plain (past_white s)
plain-run [] n = absurd cc
plain-run (b ∷ bs) n =
    let P : Bool → Type 0 = λ v. is_white b ≡ v → is_end (cond v (past_white bs) (b ∷ bs)) ≡ false
    → ◌≡◌ {A = List ℕ} (cond (v && is_end (past_white bs)) [] (b ∷ plain bs)) (cond v (b ∷ run bs) [] ++ plain (cond v (past_white bs) (b ∷ bs))) in
    elim (is_white b) as P [
      | true ↦ (λ w n. rw n (ap (λ (r : List ℕ). b ∷ r) (plain-run bs n)))
      | false ↦ (λ w n. rw w refl)
    ] refl n

white_no_colon : (b : ℕ) → is_white b ≡ true → (b == 58) ≡ false
white_no_colon b w = grind (arith, nat_tests)

-- and has no colon.
cut-run : (s : List ℕ) → is_end (past_white s) ≡ false → cut_at_colon s ≡ passed (run s) (cut_at_colon (past_white s))
cut-run [] n = absurd cc
cut-run (b ∷ bs) n =
    let P : Bool → Type 0 = λ v. is_white b ≡ v → is_end (cond v (past_white bs) (b ∷ bs)) ≡ false
    → ◌≡◌ {A = Found} (cond (v && is_end (past_white bs)) None (cond (b == 58 && is_gap bs) (Some ([], bs)) (in_front b (cut_at_colon bs))))
    (passed (cond v (b ∷ run bs) []) (cut_at_colon (cond v (past_white bs) (b ∷ bs)))) in
    elim (is_white b) as P [
      | true ↦ (λ w n. rw (n, white_no_colon b w) (ap (in_front b) (cut-run bs n) ∙ in_front-passed b (run bs) (cut_at_colon (past_white bs))))
      | false ↦ (λ w n. rw w (sym (passed-none (cond (b == 58 && is_gap bs) (Some ([], bs)) (in_front b (cut_at_colon bs))))))
    ] refl n

-- The place behind the run at a place in a text.
module _ (text : List ℕ) (at : ℕ) (within : at ≤ length text) (w : List ℕ) (is : w ≡ past_white (drop at text)) where
  parts : text ≡ (take at text ++ run (drop at text)) ++ w
  parts =
      let behind : drop at text ≡ run (drop at text) ++ w = run_first (drop at text) ∙ ap (λ (r : List ℕ). run (drop at text) ++ r) (sym is) in
      sym (take-append-drop at text) ∙ ap (λ (r : List ℕ). take at text ++ r) behind ∙ sym (simp append_assoc)

  sizes : length text ≡ length (take at text ++ run (drop at text)) + length w
  sizes = ap length parts ∙ length-append (take at text ++ run (drop at text)) w

  pub run_fits : length w ≤ length text
  run_fits = omega (arith, sizes)

  before_place : take (length text - length w) text ≡ take at text ++ run (drop at text)
  before_place = ap (take (length text - length w)) parts ∙ take_at (take at text ++ run (drop at text)) w (length text - length w) (omega (arith, sizes))

  behind_place : drop (length text - length w) text ≡ w
  behind_place = ap (drop (length text - length w)) parts ∙ drop_at (take at text ++ run (drop at text)) w (length text - length w) (omega (arith, sizes))

  pub plain_past_run : (total : List ℕ) → is_end w ≡ false → take at text ++ plain (drop at text) ≡ total
      → take (length text - length w) text ++ plain (drop (length text - length w) text) ≡ total
  plain_past_run total n so_far =
      let e : plain (drop at text) ≡ run (drop at text) ++ plain w = plain-run (drop at text) (ap is_end (sym is) ∙ n) ∙ ap (λ (r : List ℕ). run (drop at text) ++ plain r) (sym is) in
      rw (before_place, behind_place) (simp append_assoc (sym (ap (λ (r : List ℕ). take at text ++ r) e) ∙ so_far))

  pub cut_past_run : (total : Found) → is_end w ≡ false → passed (take at text) (cut_at_colon (drop at text)) ≡ total
      → passed (take (length text - length w) text) (cut_at_colon (drop (length text - length w) text)) ≡ total
  cut_past_run total n so_far =
      let e : cut_at_colon (drop at text) ≡ passed (run (drop at text)) (cut_at_colon w) = cut-run (drop at text) (ap is_end (sym is) ∙ n) ∙ ap (λ (r : List ℕ). passed (run (drop at text)) (cut_at_colon r)) (sym is) in
      rw (before_place, behind_place) (sym (passed_two (take at text) (run (drop at text)) (cut_at_colon w)) ∙ sym (ap (passed (take at text)) e) ∙ so_far)

past_white_le : (s : List ℕ) → length (past_white s) ≤ length s
past_white_le [] = omega arith
past_white_le (b ∷ bs) =
    let h = past_white_le bs in
    let P : Bool → Type 0 = λ v. length (cond v (past_white bs) (b ∷ bs)) ≤ length (b ∷ bs) in
    elim (is_white b) as P [ true ↦ omega arith | false ↦ omega arith ]

-- A run that begins here has a byte at least.
pub run_goes_on : (text : List ℕ) (at : ℕ) (w : List ℕ) → at < length text → is_white (get_or text at 0) ≡ true → w ≡ past_white (drop at text) → length text - (length text - length w) < length text - at
run_goes_on text at w lt white is =
    let one : past_white (drop at text) ≡ past_white (drop (at + 1) text) = rw (drop_more text at 0 lt, white) refl in
    let le = past_white_le (drop (at + 1) text) in
    omega (arith, ap length (is ∙ one), length-drop (at + 1) text)

-- A byte that is neither white nor a colon with a gap is passed.
pub cut_past_byte : (text : List ℕ) (at : ℕ) (total : Found) → at < length text → is_white (get_or text at 0) ≡ false → (get_or text at 0 == 58 && is_gap (drop (at + 1) text)) ≡ false
    → passed (take at text) (cut_at_colon (drop at text)) ≡ total → passed (take (at + 1) text) (cut_at_colon (drop (at + 1) text)) ≡ total
cut_past_byte text at total lt white colon so_far =
    let b = get_or text at 0 in
    let bs = drop (at + 1) text in
    let one : cut_at_colon (drop at text) ≡ in_front b (cut_at_colon bs) = rw (drop_more text at 0 lt, white, colon) refl in
    rw (take_more text at 0 lt) (sym (passed_one (take at text) b (cut_at_colon bs)) ∙ sym (ap (passed (take at text)) one) ∙ so_far)
