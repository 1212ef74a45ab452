-- The words of `statefun serve`, as `clap` reads them.
use Rattle.std.specs.Prelude.{◌≡◌, ◌≢◌, ◌≤◌, codes, ℕ, pos, List, [], true, Some}
use Rattle.std.specs.Str.Parse.{digits_value, without_leading_plus}
use Rattle.clap.specs.Words.{App, Rule, IsAmong, fault_of, matches_of, new_app, new_rule, one_of, with_rule}
use Rattle.clap.specs.declared.builder.action.ArgAction.TheVariants.{Set}
use Rattle.clap.specs.declared.builder.value_parser.ValueParser.TheVariants.{Signed}
use Rattle.clap.specs.declared.error.kind.ErrorKind.{ErrorKind}
use Rattle.clap.specs.declared.error.kind.ErrorKind.TheVariants.{DisplayHelp, OutOfMemory}
use Rattle.serve_words.specs.declared.words.ServeAsk.{ServeAsk}
use Rattle.serve_words.specs.declared.words.ServeAsk.TheVariants.{Port, Help, Usage}

-- the command `serve`, with one required word PORT, a number from 1 to 65535
abbrev pub port_rule : Rule
port_rule = record (new_rule (codes "PORT")) { required = true; action = Some Set; parser = Some (Signed (pos 1) (pos 65535)) }

abbrev pub serve_app : App
serve_app = with_rule (new_app (codes "serve")) port_rule

-- Clap takes the words, and PORT writes this number.
pub record IsTaken (words : List (List ℕ)) (port : ℕ) : Type 0 where
  pub taken : fault_of serve_app words ≡ []
  pub word : List ℕ
  pub value : one_of (codes "PORT") (matches_of serve_app words) ≡ Some word
  pub port_is : port ≡ digits_value 10 (without_leading_plus word)
  pub least : 1 ≤ port
  pub most : port ≤ 65535

-- Clap refuses the words for this cause.
abbrev pub IsRefused : List (List ℕ) → ErrorKind → Type 0
IsRefused words cause = IsAmong cause (fault_of serve_app words)

-- They ask for help, or are wrong in some other way.
pub record IsWrong (words : List (List ℕ)) : Type 0 where
  pub cause : ErrorKind
  pub refused : IsRefused words cause
  pub no_help : cause ≢ DisplayHelp

-- what is asked for by words that are refused for a cause
abbrev pub IsAskOf : ErrorKind → ServeAsk → Type 0
IsAskOf cause (Port port) = ⊥
IsAskOf cause Help = cause ≡ DisplayHelp
IsAskOf cause Usage = (cause ≢ OutOfMemory) × (cause ≢ DisplayHelp)

-- what is asked for is what clap makes of the words
abbrev pub AsksFor : List (List ℕ) → ServeAsk → Type 0
AsksFor words (Port port) = IsTaken words port
AsksFor words Help = IsRefused words DisplayHelp
AsksFor words Usage = IsWrong words
