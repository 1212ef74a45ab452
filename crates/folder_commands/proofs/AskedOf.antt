-- What clap answers of the words of these commands.
use Rattle.std.proofs.Common.{◌≡◌, ℕ, zero, suc, ◌<◌, Bool, nat_lt, ltb-true, ltb-false, arith, List, [], ◌∷◌, ◌==◌, codes, false, true, refl, inl, inr, sym, ap, ◌∙◌, subst}
use Rattle.std.proofs.lemmas.Bool.{ne_eqb}
use Rattle.std.specs.Fmt.{decimal, digits}
use Rattle.clap.specs.Words.{fault_of, is_simple_and_free}
use Rattle.clap.specs.declared.error.kind.ErrorKind.TheVariants.{DisplayHelp}
use Rattle.clap.proofs.OnLiterals.{clap_on_literals}
use Rattle.command_io.specs.Words.{AsksForHelp, IsPlain}
use Rattle.folder_commands.specs.ShowWords.{show_app}
use Rattle.folder_commands.specs.AppendWords.{append_app}

pub is_free_show : is_simple_and_free show_app ≡ true
is_free_show = refl

pub is_free_append : is_simple_and_free append_app ≡ true
is_free_append = refl

-- a call for help is refused for that alone
show_help_is_shown : (first : List ℕ) → fault_of show_app (first ∷ codes "-h" ∷ []) ≡ DisplayHelp ∷ []
unfolding clap_on_literals
show_help_is_shown first = refl

long_show_help_is_shown : (first : List ℕ) → fault_of show_app (first ∷ codes "--help" ∷ []) ≡ DisplayHelp ∷ []
unfolding clap_on_literals
long_show_help_is_shown first = refl

pub show_only_help : (words : List (List ℕ)) → AsksForHelp words → fault_of show_app words ≡ DisplayHelp ∷ []
show_only_help words (first, inl is) = ap (fault_of show_app) is ∙ show_help_is_shown first
show_only_help words (first, inr is) = ap (fault_of show_app) is ∙ long_show_help_is_shown first

append_help_is_shown : (first : List ℕ) → fault_of append_app (first ∷ codes "-h" ∷ []) ≡ DisplayHelp ∷ []
unfolding clap_on_literals
append_help_is_shown first = refl

long_append_help_is_shown : (first : List ℕ) → fault_of append_app (first ∷ codes "--help" ∷ []) ≡ DisplayHelp ∷ []
unfolding clap_on_literals
long_append_help_is_shown first = refl

pub append_only_help : (words : List (List ℕ)) → AsksForHelp words → fault_of append_app words ≡ DisplayHelp ∷ []
append_only_help words (first, inl is) = ap (fault_of append_app) is ∙ append_help_is_shown first
append_only_help words (first, inr is) = ap (fault_of append_app) is ∙ long_append_help_is_shown first

-- right words are taken
pub show_is_taken : (first folder : List ℕ) → IsPlain folder → fault_of show_app (first ∷ folder ∷ []) ≡ []
unfolding clap_on_literals
show_is_taken first [] plain = absurd plain
show_is_taken first (byte ∷ bytes) plain = let other : (byte == 45) ≡ false = ne_eqb byte 45 plain in rw (other, other) refl

one_more : (P : ℕ → Type 0) (b : ℕ) → ((n : ℕ) → n < b → P n) → P b → (n : ℕ) → n < suc b → P n
one_more P b below at n less = by (nat_lt n b) refl
  where
    by : (t : Bool) → nat_lt n b ≡ t → P n
    by true e = below n (ltb-true n b e)
    by false e = let least = ltb-false n b e in let same : b ≡ n = omega (arith, least, less) in subst P same at

pub append_is_taken : (first folder : List ℕ) → IsPlain folder → (n : ℕ) → n < 32 → fault_of append_app (first ∷ folder ∷ decimal n ∷ []) ≡ []
unfolding clap_on_literals digits
append_is_taken first [] plain n less = absurd plain
append_is_taken first (byte ∷ bytes) plain n less =
    let other : (byte == 45) ≡ false = ne_eqb byte 45 plain in
    let P : ℕ → Type 0 = λ n. fault_of append_app (first ∷ (byte ∷ bytes) ∷ decimal n ∷ []) ≡ [] in
    one_more P 31 (one_more P 30 (one_more P 29 (one_more P 28 (one_more P 27 (one_more P 26 (one_more P 25 (one_more P 24 (one_more P 23 (one_more P 22 (one_more P 21 (one_more P 20 (one_more P 19 (one_more P 18 (one_more P 17 (one_more P 16 (one_more P 15 (one_more P 14 (one_more P 13 (one_more P 12 (one_more P 11 (one_more P 10 (one_more P 9 (one_more P 8 (one_more P 7 (one_more P 6 (one_more P 5 (one_more P 4 (one_more P 3 (one_more P 2 (one_more P 1 (one_more P 0 (λ n less. absurd (omega (arith, less))) (rw (other, other) refl)) (rw (other, other) refl)) (rw (other, other) refl)) (rw (other, other) refl)) (rw (other, other) refl)) (rw (other, other) refl)) (rw (other, other) refl)) (rw (other, other) refl)) (rw (other, other) refl)) (rw (other, other) refl)) (rw (other, other) refl)) (rw (other, other) refl)) (rw (other, other) refl)) (rw (other, other) refl)) (rw (other, other) refl)) (rw (other, other) refl)) (rw (other, other) refl)) (rw (other, other) refl)) (rw (other, other) refl)) (rw (other, other) refl)) (rw (other, other) refl)) (rw (other, other) refl)) (rw (other, other) refl)) (rw (other, other) refl)) (rw (other, other) refl)) (rw (other, other) refl)) (rw (other, other) refl)) (rw (other, other) refl)) (rw (other, other) refl)) (rw (other, other) refl)) (rw (other, other) refl)) (rw (other, other) refl) n less
