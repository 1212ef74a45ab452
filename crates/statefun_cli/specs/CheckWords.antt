-- The words of `statefun check`, as `clap` reads them.
use Rattle.std.specs.Prelude.{◌≡◌, ◌≢◌, codes, ℕ, List, [], true, Some}
use Rattle.clap.specs.Words.{App, Rule, IsAmong, fault_of, new_app, new_rule, with_rule}
use Rattle.clap.specs.declared.builder.action.ArgAction.TheVariants.{Set}
use Rattle.clap.specs.declared.error.kind.ErrorKind.{ErrorKind}
use Rattle.clap.specs.declared.error.kind.ErrorKind.TheVariants.{DisplayHelp, OutOfMemory}
use Rattle.statefun_cli.specs.declared.check_words.CheckAsk.{CheckAsk}
use Rattle.statefun_cli.specs.declared.check_words.CheckAsk.TheVariants.{Module, Help, Usage}

-- the command `check`, with one required word MODULE
abbrev pub module_rule : Rule
module_rule = record (new_rule (codes "MODULE")) { required = true; action = Some Set }

abbrev pub check_app : App
check_app = with_rule (new_app (codes "check")) module_rule

-- Clap takes the words.
abbrev pub IsTaken : List (List ℕ) → Type 0
IsTaken words = fault_of check_app words ≡ []

-- Clap refuses the words for this cause.
abbrev pub IsRefused : List (List ℕ) → ErrorKind → Type 0
IsRefused words cause = IsAmong cause (fault_of check_app words)

-- They ask for help, or are wrong in some other way.
pub record IsWrong (words : List (List ℕ)) : Type 0 where
  pub cause : ErrorKind
  pub refused : IsRefused words cause
  pub no_help : cause ≢ DisplayHelp

-- what is asked for by words that are refused for a cause
abbrev pub IsAskOf : ErrorKind → CheckAsk → Type 0
IsAskOf cause Module = ⊥
IsAskOf cause Help = cause ≡ DisplayHelp
IsAskOf cause Usage = (cause ≢ OutOfMemory) × (cause ≢ DisplayHelp)

-- what is asked for is what clap makes of the words
abbrev pub AsksFor : List (List ℕ) → CheckAsk → Type 0
AsksFor words Module = IsTaken words
AsksFor words Help = IsRefused words DisplayHelp
AsksFor words Usage = IsWrong words
