-- What `parse` says of a number in a word.
use Rattle.std.proofs.Common.{◌≡◌, ℕ, ◌<◌, ◌≤◌, ◌^◌, List, [], ◌∷◌, length, get_or, Bool, true, false, eqb, not, ◌&&◌, refl, arith, rules, Option, None, Result, Ok, Err, ne_eqb, if◌then◌else◌}
use Rattle.std.specs.Char.{is_ascii_digit}
use Rattle.std.specs.Result.{OkIff}
use Rattle.std.specs.Str.{all_ascii_digits}
use Rattle.std.specs.Str.Parse.{digits_value, ParsesUnsigned}
use Rattle.std.proofs.lemmas.Bool.Decides.{nat_tests}
use Rattle.std.proofs.lemmas.Str.Parse.{IsNumeralModel, numerals_by_value, parse_plain}
use Rattle.run_words.specs.Words.{number_in, within}

own : IsNumeralModel (λ ds. all_ascii_digits ds ≡ true) (digits_value 10)
own = numerals_by_value _ (search rules)

not_led : (byte : ℕ) (others : Bool) → ¬ ((49 ≤ byte) × (byte ≤ 57)) → (is_ascii_digit byte && others) && not (eqb byte 48) ≡ false
not_led byte others h = grind (arith, nat_tests)

pub number-not_led : (most : ℕ) (word : List ℕ) → ¬ ((49 ≤ get_or word 0 0) × (get_or word 0 0 ≤ 57)) → number_in most word ≡ None
unfolding number_in
number-not_led most [] h = refl
number-not_led most (byte ∷ bytes) h = let e = not_led byte (all_ascii_digits bytes) h in rw e refl

abbrev pub parsed_number : {E : Type 0} → ℕ → Result ℕ E → Option ℕ
parsed_number most (Ok n) = within most n
parsed_number most (Err e) = None

within-none : (most n : ℕ) → (0 < n → n ≤ most → ⊥) → within most n ≡ None
within-none most n h = grind (arith, nat_tests)

none-at : (most : ℕ) (a z : Bool) (n : ℕ) → (a ≡ true → 0 < n → n ≤ most → ⊥) → (if a && z then within most n else None) ≡ None
none-at most false z n h = refl
none-at most true false n h = refl
none-at most true true n h = within-none most n (h refl)

some-length : (word : List ℕ) → 0 < digits_value 10 word → 0 < length word
some-length [] h = absurd (omega arith)
some-length (byte ∷ bytes) h = omega arith

by_result : {E : Type 0} (most : ℕ) (word : List ℕ) (r : Result ℕ E) → most < 2 ^ 64 → (49 ≤ get_or word 0 0) × (get_or word 0 0 ≤ 57) → OkIff r ((all_ascii_digits word ≡ true) × (0 < length word) × (digits_value 10 word < 2 ^ 64)) (digits_value 10 word) → number_in most word ≡ parsed_number most r
unfolding number_in
by_result most word (Ok n) m led h = let e = h.0.0 in let f : eqb (get_or word 0 0) 48 ≡ false = ne_eqb (get_or word 0 0) 48 (λ e. omega arith) in rw (e, f, h.1) refl
by_result most word (Err d) m led h = none-at most (all_ascii_digits word) (not (eqb (get_or word 0 0) 48)) (digits_value 10 word) (λ a l s. h (a, some-length word l, omega arith))

pub number-parsed : {E : Type 0} (most : ℕ) (word : List ℕ) (r : Result ℕ E) → most < 2 ^ 64 → ParsesUnsigned 64 10 word r → (49 ≤ get_or word 0 0) × (get_or word 0 0 ≤ 57) → number_in most word ≡ parsed_number most r
number-parsed most word r m h led = by_result most word r m led (parse_plain own 64 word r h (λ e. omega arith))
