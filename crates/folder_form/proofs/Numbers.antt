-- A number that is read digit by digit.
use Rattle.std.proofs.Common.{◌≡◌, ℕ, ◌+◌, ◌-◌, ◌*◌, ◌<◌, ◌≤◌, List, [], ◌∷◌, get_or, Bool, true, false, eqb, not, ◌&&◌, refl, arith, Option, None, Some, if◌then◌else◌}
use Rattle.std.specs.Char.{is_ascii_digit, digit_value}
use Rattle.std.specs.Str.{all_ascii_digits}
use Rattle.std.specs.Str.Parse.{digits_value_after}
use Rattle.std.proofs.lemmas.Bool.Decides.{nat_tests}
use Rattle.folder_form.specs.Shapes.{number_up_to, within}

-- what is read behind a number that was read so far, where 0 stands for none
pub onward : ℕ → ℕ → List ℕ → Option ℕ
onward most n word = if all_ascii_digits word && not (eqb n 0 && eqb (get_or word 0 0) 48) then within most (digits_value_after 10 n word) else None

pub onward-init : (most : ℕ) (word : List ℕ) → onward most 0 word ≡ number_up_to most word
unfolding onward number_up_to
onward-init most word = refl

pub onward-other : (most n byte : ℕ) (bytes : List ℕ) → is_ascii_digit byte ≡ false → onward most n (byte ∷ bytes) ≡ None
unfolding onward
onward-other most n byte bytes e = rw e refl

pub onward-zero : (most n byte : ℕ) (bytes : List ℕ) → n ≡ 0 → byte ≡ 48 → onward most n (byte ∷ bytes) ≡ None
unfolding onward
onward-zero most n byte bytes none zero = rw (none, zero) (go (all_ascii_digits bytes))
  where
    go : (b : Bool) → (if b && false then within most (digits_value_after 10 0 (48 ∷ bytes)) else None) ≡ None
    go true = refl
    go false = refl

digit : (byte : ℕ) → is_ascii_digit byte ≡ true → digit_value byte ≡ byte - 48
digit byte e = grind (arith, nat_tests)

grown : (n : ℕ) (bytes : List ℕ) → n ≤ digits_value_after 10 n bytes
grown n [] = omega arith
grown n (byte ∷ bytes) = let more = grown (n * 10 + digit_value byte) bytes in larger n (digit_value byte) (digits_value_after 10 (n * 10 + digit_value byte) bytes) more
  where
    larger : (n d m : ℕ) → n * 10 + d ≤ m → n ≤ m
    larger n d m h = omega arith

above : (most n : ℕ) → most < n → within most n ≡ None
above most n h = grind (arith, nat_tests)

pub onward-above : (most n byte : ℕ) (bytes : List ℕ) → is_ascii_digit byte ≡ true → most < n * 10 + (byte - 48) → onward most n (byte ∷ bytes) ≡ None
unfolding onward
onward-above most n byte bytes e h =
    go (all_ascii_digits (byte ∷ bytes) && not (eqb n 0 && eqb byte 48)) (digits_value_after 10 (n * 10 + digit_value byte) bytes) (grown (n * 10 + digit_value byte) bytes) (digit byte e)
  where
    go : (b : Bool) (value : ℕ) → n * 10 + digit_value byte ≤ value → digit_value byte ≡ byte - 48 → (if b then within most value else None) ≡ None
    go true value more d = above most value (let small : most < n * 10 + digit_value byte = rw d h in omega arith)
    go false value more d = refl

not_led : (n byte : ℕ) → ¬ ((n ≡ 0) × (byte ≡ 48)) → not (eqb n 0 && eqb byte 48) ≡ true
not_led n byte led = grind (arith, nat_tests)

not_none : (n byte : ℕ) → is_ascii_digit byte ≡ true → ¬ ((n ≡ 0) × (byte ≡ 48)) → eqb (n * 10 + (byte - 48)) 0 ≡ false
not_none n byte e led = grind (arith, nat_tests)

pub onward-step : (most n byte : ℕ) (bytes : List ℕ) → is_ascii_digit byte ≡ true → ¬ ((n ≡ 0) × (byte ≡ 48)) → onward most n (byte ∷ bytes) ≡ onward most (n * 10 + (byte - 48)) bytes
unfolding onward
onward-step most n byte bytes e led =
    go (is_ascii_digit byte) (not (eqb n 0 && eqb byte 48)) (eqb (n * 10 + (byte - 48)) 0) (all_ascii_digits bytes) (digit_value byte) e (not_led n byte led) (not_none n byte e led) (digit byte e)
  where
    go : (first led none others : Bool) (d : ℕ) → first ≡ true → led ≡ true → none ≡ false → d ≡ byte - 48
        → (if first && others && led then within most (digits_value_after 10 (n * 10 + d) bytes) else None)
        ≡ (if others && not (none && eqb (get_or bytes 0 0) 48) then within most (digits_value_after 10 (n * 10 + (byte - 48)) bytes) else None)
    go first led none others d f l z e = rw (f, l, z, e) (same others)
      where
        same : (b : Bool) → (if true && b && true then within most (digits_value_after 10 (n * 10 + (byte - 48)) bytes) else None) ≡ (if b && true then within most (digits_value_after 10 (n * 10 + (byte - 48)) bytes) else None)
        same true = refl
        same false = refl

pub onward-end : (most n : ℕ) → n ≤ most → ¬ (n ≡ 0) → onward most n [] ≡ Some n
unfolding onward
onward-end most n h some = grind (arith, nat_tests)

pub onward-none : (most n : ℕ) → n ≡ 0 → onward most n [] ≡ None
unfolding onward
onward-none most n e = rw e refl
