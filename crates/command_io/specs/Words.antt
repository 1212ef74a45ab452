-- The words of a command, as `clap` reads them.
use Rattle.std.specs.Prelude.{◌≡◌, ◌≢◌, ◌⊎◌, codes, ℕ, List, [], ◌∷◌}
use Rattle.clap.specs.Words.{App, IsAmong, fault_of}
use Rattle.clap.specs.declared.error.kind.ErrorKind.{ErrorKind}
use Rattle.clap.specs.declared.error.kind.ErrorKind.TheVariants.{DisplayHelp, OutOfMemory}
use Rattle.command_io.specs.declared.words.Asked.{Asked}
use Rattle.command_io.specs.declared.words.Asked.TheVariants.{Work, Help, Usage}

-- Clap takes the words.
abbrev pub IsTaken : App → List (List ℕ) → Type 0
IsTaken app words = fault_of app words ≡ []

-- Clap refuses the words for this cause.
abbrev pub IsRefused : App → List (List ℕ) → ErrorKind → Type 0
IsRefused app words cause = IsAmong cause (fault_of app words)

-- They ask for help, or are wrong in some other way.
pub record IsWrong (app : App) (words : List (List ℕ)) : Type 0 where
  pub cause : ErrorKind
  pub refused : IsRefused app words cause
  pub no_help : cause ≢ DisplayHelp

-- what is asked for by words that are refused for a cause
abbrev pub IsAskOf : ErrorKind → Asked → Type 0
IsAskOf cause Work = ⊥
IsAskOf cause Help = cause ≡ DisplayHelp
IsAskOf cause Usage = (cause ≢ OutOfMemory) × (cause ≢ DisplayHelp)

-- what is asked for is what clap makes of the words
abbrev pub AsksFor : App → List (List ℕ) → Asked → Type 0
AsksFor app words Work = IsTaken app words
AsksFor app words Help = IsRefused app words DisplayHelp
AsksFor app words Usage = IsWrong app words

-- `-h` or `--help` alone
abbrev pub AsksForHelp : List (List ℕ) → Type 0
AsksForHelp words = (first : List ℕ) × ((words ≡ first ∷ codes "-h" ∷ []) ⊎ (words ≡ first ∷ codes "--help" ∷ []))

-- a word that is not empty and does not begin with `-`
abbrev pub IsPlain : List ℕ → Type 0
IsPlain [] = ⊥
IsPlain (byte ∷ bytes) = byte ≢ 45
