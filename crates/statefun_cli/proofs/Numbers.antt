-- What `parse` says of a number of turns.
use Rattle.std.proofs.Common.{◌≡◌, ℕ, ◌<◌, ◌≤◌, ◌^◌, List, [], ◌∷◌, length, get_or, Bool, true, false, eqb, not, ◌&&◌, refl, arith, rules, Option, None, Result, Ok, Err, ne_eqb, if◌then◌else◌}
use Rattle.std.specs.Char.{is_ascii_digit}
use Rattle.std.specs.Result.{OkIff}
use Rattle.std.specs.Str.{all_ascii_digits}
use Rattle.std.specs.Str.Parse.{digits_value, ParsesUnsigned}
use Rattle.std.proofs.lemmas.Bool.Decides.{nat_tests}
use Rattle.std.proofs.lemmas.Str.Parse.{IsNumeralModel, numerals_by_value, parse_plain}
use Rattle.statefun_cli.specs.RunWords.{turns_in, turns_within}

own : IsNumeralModel (λ ds. all_ascii_digits ds ≡ true) (digits_value 10)
own = numerals_by_value _ (search rules)

not_led : (byte : ℕ) (others : Bool) → ¬ ((49 ≤ byte) × (byte ≤ 57)) → (is_ascii_digit byte && others) && not (eqb byte 48) ≡ false
not_led byte others h = grind (arith, nat_tests)

pub turns-not_led : (word : List ℕ) → ¬ ((49 ≤ get_or word 0 0) × (get_or word 0 0 ≤ 57)) → turns_in word ≡ None
unfolding turns_in
turns-not_led [] h = refl
turns-not_led (byte ∷ bytes) h = let e = not_led byte (all_ascii_digits bytes) h in rw e refl

abbrev pub parsed_turns : {E : Type 0} → Result ℕ E → Option ℕ
parsed_turns (Ok n) = turns_within n
parsed_turns (Err e) = None

within-none : (n : ℕ) → (0 < n → n < 2 ^ 64 → ⊥) → turns_within n ≡ None
within-none n h = grind (arith, nat_tests)

none-at : (a z : Bool) (n : ℕ) → (a ≡ true → 0 < n → n < 2 ^ 64 → ⊥) → (if a && z then turns_within n else None) ≡ None
none-at false z n h = refl
none-at true false n h = refl
none-at true true n h = within-none n (h refl)

some-length : (word : List ℕ) → 0 < digits_value 10 word → 0 < length word
some-length [] h = absurd (omega arith)
some-length (byte ∷ bytes) h = omega arith

by_result : {E : Type 0} (word : List ℕ) (r : Result ℕ E) → (49 ≤ get_or word 0 0) × (get_or word 0 0 ≤ 57) → OkIff r ((all_ascii_digits word ≡ true) × (0 < length word) × (digits_value 10 word < 2 ^ 64)) (digits_value 10 word) → turns_in word ≡ parsed_turns r
unfolding turns_in
by_result word (Ok n) led h = let e = h.0.0 in let f : eqb (get_or word 0 0) 48 ≡ false = ne_eqb (get_or word 0 0) 48 (λ e. omega arith) in rw (e, f, h.1) refl
by_result word (Err d) led h = none-at (all_ascii_digits word) (not (eqb (get_or word 0 0) 48)) (digits_value 10 word) (λ a l s. h (a, some-length word l, s))

pub turns-parsed : {E : Type 0} (word : List ℕ) (r : Result ℕ E) → ParsesUnsigned 64 10 word r → (49 ≤ get_or word 0 0) × (get_or word 0 0 ≤ 57) → turns_in word ≡ parsed_turns r
turns-parsed word r h led = by_result word r led (parse_plain own 64 word r h (λ e. omega arith))
