-- The words of `statefun decode`, as `clap` reads them.
use Rattle.std.specs.Prelude.{◌≡◌, ◌≢◌, codes, ℕ, List, [], ◌∷◌, map, true, Some}
use Rattle.std.specs.Borrow.{Bor}
use Rattle.clap.specs.Words.{App, Rule, IsAmong, fault_of, matches_of, new_app, new_rule, one_of, with_rule}
use Rattle.clap.specs.declared.builder.action.ArgAction.TheVariants.{Set}
use Rattle.clap.specs.declared.builder.value_parser.ValueParser.TheVariants.{Names}
use Rattle.clap.specs.declared.error.kind.ErrorKind.{ErrorKind}
use Rattle.clap.specs.declared.error.kind.ErrorKind.TheVariants.{DisplayHelp, OutOfMemory}
use Rattle.statefun_cli.specs.declared.decode_words.MessageKind.{MessageKind}
use Rattle.statefun_cli.specs.declared.decode_words.MessageKind.TheVariants.{Request, Answer}
use Rattle.statefun_cli.specs.declared.decode_words.DecodeAsk.{DecodeAsk}
use Rattle.statefun_cli.specs.declared.decode_words.DecodeAsk.TheVariants.{Lines, Help, Usage}
use Rattle.statefun_cli.specs.Kinds.{word_of}

-- the command `decode`, with one required word KIND that is one of these names
abbrev pub kind_rule : Bor (List (Bor (List ℕ))) → Rule
kind_rule names = record (new_rule (codes "KIND")) { required = true; action = Some Set; parser = Some (Names names) }

abbrev pub decode_app : Bor (List (Bor (List ℕ))) → App
decode_app names = with_rule (new_app (codes "decode")) (kind_rule names)

-- the names are the words for the kinds
abbrev pub AreKinds : Bor (List (Bor (List ℕ))) → Type 0
AreKinds names = map (λ name. name.now) names.now ≡ word_of Request ∷ word_of Answer ∷ []

-- Clap takes the words, and KIND is the word for this kind.
pub record IsTaken (words : List (List ℕ)) (kind : MessageKind) : Type 0 where
  pub names : Bor (List (Bor (List ℕ)))
  pub kinds : AreKinds names
  pub taken : fault_of (decode_app names) words ≡ []
  pub value : one_of (codes "KIND") (matches_of (decode_app names) words) ≡ Some (word_of kind)

-- Clap refuses the words for this cause.
pub record IsRefused (words : List (List ℕ)) (cause : ErrorKind) : Type 0 where
  pub names : Bor (List (Bor (List ℕ)))
  pub kinds : AreKinds names
  pub refused : IsAmong cause (fault_of (decode_app names) words)

-- They ask for help, or are wrong in some other way.
pub record IsWrong (words : List (List ℕ)) : Type 0 where
  pub cause : ErrorKind
  pub refused : IsRefused words cause
  pub no_help : cause ≢ DisplayHelp

-- what is asked for by words that are refused for a cause
abbrev pub IsAskOf : ErrorKind → DecodeAsk → Type 0
IsAskOf cause (Lines kind) = ⊥
IsAskOf cause Help = cause ≡ DisplayHelp
IsAskOf cause Usage = (cause ≢ OutOfMemory) × (cause ≢ DisplayHelp)

-- what is asked for is what clap makes of the words
abbrev pub AsksFor : List (List ℕ) → DecodeAsk → Type 0
AsksFor words (Lines kind) = IsTaken words kind
AsksFor words Help = IsRefused words DisplayHelp
AsksFor words Usage = IsWrong words
