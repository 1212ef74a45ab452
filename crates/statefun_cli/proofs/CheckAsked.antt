-- What clap answers of the words of `check`.
use Rattle.std.proofs.Common.{◌≡◌, ℕ, List, [], ◌∷◌, ◌==◌, codes, false, true, refl, inl, inr}
use Rattle.std.proofs.lemmas.Bool.{ne_eqb}
use Rattle.clap.specs.Words.{fault_of, is_simple_and_free, HasKind, kind_of}
use Rattle.clap.specs.declared.error.Error.{Error}
use Rattle.clap.specs.declared.error.kind.ErrorKind.TheVariants.{DisplayHelp}
use Rattle.clap.proofs.OnLiterals.{clap_on_literals}
use Rattle.statefun_cli.specs.Check.{IsPlain}
use Rattle.statefun_cli.specs.declared.check_words.CheckAsk.{CheckAsk}
use Rattle.statefun_cli.specs.declared.check_words.CheckAsk.TheVariants.{Module, Help, Usage}
use Rattle.statefun_cli.specs.CheckWords.{check_app, IsAskOf, AsksFor}

pub is_free_check : is_simple_and_free check_app ≡ true
is_free_check = refl

-- what is asked for by refused words
pub asked_by : (words : List (List ℕ)) (error : Error) (ask : CheckAsk) → HasKind (fault_of check_app words) error → IsAskOf (kind_of error) ask → AsksFor words ask
asked_by words error Module has asked = absurd asked
asked_by words error Help (inl memory) asked = absurd cc
asked_by words error Help (inr among) asked = rw asked at among
asked_by words error Usage (inl memory) asked = absurd (asked.0 memory)
asked_by words error Usage (inr among) asked = record { cause = kind_of error; refused = among; no_help = asked.1 }

-- a call for help is refused for that alone
pub help_is_shown : (first : List ℕ) → fault_of check_app (first ∷ codes "-h" ∷ []) ≡ DisplayHelp ∷ []
unfolding clap_on_literals
help_is_shown first = refl

pub long_help_is_shown : (first : List ℕ) → fault_of check_app (first ∷ codes "--help" ∷ []) ≡ DisplayHelp ∷ []
unfolding clap_on_literals
long_help_is_shown first = refl

-- right words are taken
pub right_is_taken : (first path : List ℕ) → IsPlain path → fault_of check_app (first ∷ path ∷ []) ≡ []
unfolding clap_on_literals
right_is_taken first [] plain = absurd plain
right_is_taken first (byte ∷ bytes) plain = let other : (byte == 45) ≡ false = ne_eqb byte 45 plain in rw (other, other) refl
