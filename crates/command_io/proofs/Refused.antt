-- What clap answers of the words of a command.
use Rattle.std.proofs.Common.{◌≡◌, ℕ, List, [], ◌∷◌, inl, inr}
use Rattle.clap.specs.Words.{App, IsAmong, fault_of, HasKind, kind_of}
use Rattle.clap.specs.declared.error.Error.{Error}
use Rattle.clap.specs.declared.error.kind.ErrorKind.{ErrorKind}
use Rattle.clap.specs.declared.error.kind.ErrorKind.TheVariants.{DisplayHelp}
use Rattle.command_io.specs.declared.words.Asked.{Asked}
use Rattle.command_io.specs.declared.words.Asked.TheVariants.{Work, Help, Usage}
use Rattle.command_io.specs.Words.{IsAskOf, IsRefused, AsksFor}

-- what is asked for by refused words
pub asked_by : (app : App) (words : List (List ℕ)) (error : Error) (ask : Asked) → HasKind (fault_of app words) error → IsAskOf (kind_of error) ask → AsksFor app words ask
asked_by app words error Work has asked = absurd asked
asked_by app words error Help (inl memory) asked = absurd cc
asked_by app words error Help (inr among) asked = rw asked at among
asked_by app words error Usage (inl memory) asked = absurd (asked.0 memory)
asked_by app words error Usage (inr among) asked = record { cause = kind_of error; refused = among; no_help = asked.1 }

pub none_among : (cause : ErrorKind) (kinds : List ErrorKind) → kinds ≡ [] → IsAmong cause kinds → ⊥
none_among cause [] e among = among
none_among cause (k ∷ ks) e among = absurd cc

pub among_help : (cause : ErrorKind) (kinds : List ErrorKind) → kinds ≡ DisplayHelp ∷ [] → IsAmong cause kinds → cause ≡ DisplayHelp
among_help cause [] e among = absurd among
among_help cause (k ∷ ks) e (inl is) = cc
among_help cause (k ∷ []) e (inr among) = absurd among
among_help cause (k ∷ l ∷ ks) e (inr among) = absurd cc
