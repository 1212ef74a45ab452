-- What `parse` says of a number under a key.
use Rattle.std.proofs.Common.{◌≡◌, ℕ, ◌<◌, ◌≤◌, ◌^◌, List, [], ◌∷◌, length, get_or, Bool, true, false, eqb, not, ◌&&◌, refl, arith, rules, Option, None, Result, Ok, Err, ne_eqb, if◌then◌else◌}
use Rattle.std.specs.Char.{is_ascii_digit}
use Rattle.std.specs.Result.{OkIff}
use Rattle.std.specs.Str.{all_ascii_digits}
use Rattle.std.specs.Str.Parse.{digits_value, ParsesUnsigned}
use Rattle.std.proofs.lemmas.Bool.Decides.{nat_tests}
use Rattle.std.proofs.lemmas.Str.Parse.{IsNumeralModel, numerals_by_value, parse_plain}
use Rattle.module_yaml.specs.Values.{number_in, number_within}

own : IsNumeralModel (λ ds. all_ascii_digits ds ≡ true) (digits_value 10)
own = numerals_by_value _ (search rules)

not_led : (byte : ℕ) (others : Bool) → ¬ ((49 ≤ byte) × (byte ≤ 57)) → (is_ascii_digit byte && others) && not (eqb byte 48) ≡ false
not_led byte others h = grind (arith, nat_tests)

pub number-not_led : (least most : ℕ) (word : List ℕ) → 1 ≤ least → ¬ ((49 ≤ get_or word 0 0) × (get_or word 0 0 ≤ 57)) → number_in least most word ≡ None
unfolding number_in
number-not_led least most [] some h = number-nil (not-le least some)
  where
    not-le : (n : ℕ) → 1 ≤ n → number_within n most 0 ≡ None
    not-le n k = grind (arith, nat_tests)

    number-nil : number_within least most 0 ≡ None → number_within least most 0 ≡ None
    number-nil e = e
number-not_led least most (byte ∷ bytes) some h = let e = not_led byte (all_ascii_digits bytes) h in rw e refl

abbrev pub parsed : {E : Type 0} → ℕ → ℕ → Result ℕ E → Option ℕ
parsed least most (Ok n) = number_within least most n
parsed least most (Err e) = None

within-none : (least most n : ℕ) → 1 ≤ least → most < 2 ^ 64 → (0 < n → n < 2 ^ 64 → ⊥) → number_within least most n ≡ None
within-none least most n some small h = grind (arith, nat_tests)

none-at : (least most : ℕ) (a z : Bool) (n : ℕ) → 1 ≤ least → most < 2 ^ 64 → (a ≡ true → 0 < n → n < 2 ^ 64 → ⊥) → (if a && z then number_within least most n else None) ≡ None
none-at least most false z n some small h = refl
none-at least most true false n some small h = refl
none-at least most true true n some small h = within-none least most n some small (h refl)

some-length : (word : List ℕ) → 0 < digits_value 10 word → 0 < length word
some-length [] h = absurd (omega arith)
some-length (byte ∷ bytes) h = omega arith

by_result : {E : Type 0} (least most : ℕ) (word : List ℕ) (r : Result ℕ E) → 1 ≤ least → most < 2 ^ 64 → (49 ≤ get_or word 0 0) × (get_or word 0 0 ≤ 57) → OkIff r ((all_ascii_digits word ≡ true) × (0 < length word) × (digits_value 10 word < 2 ^ 64)) (digits_value 10 word) → number_in least most word ≡ parsed least most r
unfolding number_in
by_result least most word (Ok n) some small led h = let e = h.0.0 in let f : eqb (get_or word 0 0) 48 ≡ false = ne_eqb (get_or word 0 0) 48 (λ e. omega arith) in rw (e, f, h.1) refl
by_result least most word (Err d) some small led h = none-at least most (all_ascii_digits word) (not (eqb (get_or word 0 0) 48)) (digits_value 10 word) some small (λ a l s. h (a, some-length word l, s))

pub number-parsed : {E : Type 0} (least most : ℕ) (word : List ℕ) (r : Result ℕ E) → 1 ≤ least → most < 2 ^ 64 → ParsesUnsigned 64 10 word r → (49 ≤ get_or word 0 0) × (get_or word 0 0 ≤ 57) → number_in least most word ≡ parsed least most r
number-parsed least most word r some small h led = by_result least most word r some small led (parse_plain own 64 word r h (λ e. omega arith))
