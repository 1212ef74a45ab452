-- What clap answers of the words of `audit`.
use Rattle.std.proofs.Common.{◌≡◌, ℕ, List, [], ◌∷◌, ◌==◌, codes, false, true, refl, inl, inr, ap, ◌∙◌}
use Rattle.std.proofs.lemmas.Bool.{ne_eqb}
use Rattle.clap.specs.Words.{fault_of, is_simple_and_free}
use Rattle.clap.specs.declared.error.kind.ErrorKind.TheVariants.{DisplayHelp}
use Rattle.clap.proofs.OnLiterals.{clap_on_literals}
use Rattle.command_io.specs.Words.{AsksForHelp, IsPlain}
use Rattle.folder_audit.specs.Words.{audit_app}

pub is_free_audit : is_simple_and_free audit_app ≡ true
is_free_audit = refl

-- a call for help is refused for that alone
help_is_shown : (first : List ℕ) → fault_of audit_app (first ∷ codes "-h" ∷ []) ≡ DisplayHelp ∷ []
unfolding clap_on_literals
help_is_shown first = refl

long_help_is_shown : (first : List ℕ) → fault_of audit_app (first ∷ codes "--help" ∷ []) ≡ DisplayHelp ∷ []
unfolding clap_on_literals
long_help_is_shown first = refl

pub only_help : (words : List (List ℕ)) → AsksForHelp words → fault_of audit_app words ≡ DisplayHelp ∷ []
only_help words (first, inl is) = ap (fault_of audit_app) is ∙ help_is_shown first
only_help words (first, inr is) = ap (fault_of audit_app) is ∙ long_help_is_shown first

-- right words are taken
pub audit_is_taken : (first file folder : List ℕ) → IsPlain file → IsPlain folder → fault_of audit_app (first ∷ file ∷ folder ∷ []) ≡ []
unfolding clap_on_literals
audit_is_taken first [] folder plain also = absurd plain
audit_is_taken first (byte ∷ bytes) [] plain also = absurd also
audit_is_taken first (byte ∷ bytes) (b ∷ bs) plain also =
    let other : (byte == 45) ≡ false = ne_eqb byte 45 plain in
    let too : (b == 45) ≡ false = ne_eqb b 45 also in
    rw (other, other, too, too) refl
