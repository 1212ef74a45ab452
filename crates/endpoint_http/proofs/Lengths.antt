-- What the digits of a length give.
use Rattle.std.proofs.Common.{◌≡◌, ℕ, ◌<◌, ◌≤◌, ◌^◌, List, [], ◌∷◌, length, get_or, Bool, true, false, ◌&&◌, refl, arith, rules, Option, None, Result, Ok, Err, if◌then◌else◌, All, nat_lt}
use Rattle.std.specs.Prelude.{IsUtf8}
use Rattle.std.specs.Char.{is_ascii_digit}
use Rattle.std.specs.Result.{OkIff}
use Rattle.std.specs.Str.{all_ascii_digits}
use Rattle.std.specs.Str.Parse.{digits_value, ParsesUnsigned}
use Rattle.std.proofs.lemmas.Bool.Decides.{nat_tests}
use Rattle.std.proofs.lemmas.List.Elements.{All-cons, All-nil}
use Rattle.std.proofs.lemmas.Str.{IsUtf8-from_ascii}
use Rattle.std.proofs.lemmas.Str.Ascii.{IsAscii-from_all}
use Rattle.std.proofs.lemmas.Str.Parse.{IsNumeralModel, numerals_by_value, parse_plain}
use Rattle.endpoint_http.specs.Fields.{length_of, below}

own : IsNumeralModel (λ ds. all_ascii_digits ds ≡ true) (digits_value 10)
own = numerals_by_value _ (search rules)

digit-small : (byte : ℕ) → is_ascii_digit byte ≡ true → byte < 128
digit-small byte h = grind (arith, nat_tests)

both : (a b : Bool) → a && b ≡ true → (a ≡ true) × (b ≡ true)
both true b h = (refl, h)
both false b h = absurd cc

digits-small : (bytes : List ℕ) → all_ascii_digits bytes ≡ true → All (λ b. b < 128) bytes
digits-small [] h = All-nil (λ b. b < 128)
digits-small (byte ∷ bytes) h = All-cons (λ b. b < 128) byte bytes (digit-small byte (both (is_ascii_digit byte) (all_ascii_digits bytes) h).0) (digits-small bytes (both (is_ascii_digit byte) (all_ascii_digits bytes) h).1)

pub digits-utf8 : (bytes : List ℕ) → all_ascii_digits bytes ≡ true → IsUtf8 bytes
digits-utf8 bytes h = IsUtf8-from_ascii bytes (IsAscii-from_all bytes (digits-small bytes h))

abbrev pub parsed_length : {E : Type 0} → Result ℕ E → Option ℕ
parsed_length (Ok n) = below n
parsed_length (Err e) = None

not_digit : (byte : ℕ) (others : Bool) → ¬ ((48 ≤ byte) × (byte ≤ 57)) → is_ascii_digit byte && others ≡ false
not_digit byte others h = grind (arith, nat_tests)

none-without : (some digits : Bool) (n : ℕ) → digits ≡ false → (if some && digits then below n else None) ≡ None
none-without false digits n h = refl
none-without true false n h = refl
none-without true true n h = absurd cc

pub length-not_led : (bytes : List ℕ) → ¬ ((0 < length bytes) × (48 ≤ get_or bytes 0 0) × (get_or bytes 0 0 ≤ 57)) → length_of bytes ≡ None
length-not_led [] h = refl
length-not_led (byte ∷ bytes) h = none-without (nat_lt 0 (length (byte ∷ bytes))) (all_ascii_digits (byte ∷ bytes)) _ (not_digit byte (all_ascii_digits bytes) (λ p. h (omega arith, p.0, p.1)))

pub length-not_utf8 : (bytes : List ℕ) → ¬ (IsUtf8 bytes) → length_of bytes ≡ None
length-not_utf8 bytes h = by_digits (nat_lt 0 (length bytes)) (all_ascii_digits bytes) (λ e. h (digits-utf8 bytes e))
  where
    by_digits : (some digits : Bool) → ¬ (digits ≡ true) → (if some && digits then below (digits_value 10 bytes) else None) ≡ None
    by_digits false digits h = refl
    by_digits true true h = elim (h refl) [ ]
    by_digits true false h = refl

none-below : (n : ℕ) → ¬ (n < 2 ^ 64) → below n ≡ None
none-below n h = grind (arith, nat_tests)

none-at : (some digits : Bool) (n : ℕ) → (some ≡ true → digits ≡ true → n < 2 ^ 64 → ⊥) → (if some && digits then below n else None) ≡ None
none-at false digits n h = refl
none-at true false n h = refl
none-at true true n h = none-below n (h refl refl)

nat_lt-true : (n m : ℕ) → nat_lt n m ≡ true → n < m
nat_lt-true n m h = grind (arith, nat_tests)

by_result : {E : Type 0} (bytes : List ℕ) (r : Result ℕ E) → OkIff r ((all_ascii_digits bytes ≡ true) × (0 < length bytes) × (digits_value 10 bytes < 2 ^ 64)) (digits_value 10 bytes) → length_of bytes ≡ parsed_length r
by_result bytes (Ok n) h = let e = h.0.0 in let f : nat_lt 0 (length bytes) ≡ true = grind (arith, nat_tests, h.0.1) in rw (e, f, h.1) refl
by_result bytes (Err e) h = none-at (nat_lt 0 (length bytes)) (all_ascii_digits bytes) (digits_value 10 bytes) (λ some digits below. h (digits, nat_lt-true 0 (length bytes) some, below))

pub length-parsed : {E : Type 0} (bytes : List ℕ) (r : Result ℕ E) → ParsesUnsigned 64 10 bytes r → (48 ≤ get_or bytes 0 0) × (get_or bytes 0 0 ≤ 57) → length_of bytes ≡ parsed_length r
length-parsed bytes r h led = by_result bytes r (parse_plain own 64 bytes r h (λ e. omega arith))
