-- Runs of a command: what its words ask for is done, and how that ends is told.
use Rattle.std.specs.Prelude.{◌≡◌, ℕ, List, Option, Some, None}
use Rattle.clap.specs.Words.{App}
use Rattle.command_io.specs.declared.words.Asked.{Asked}
use Rattle.command_io.specs.declared.words.Asked.TheVariants.{Work, Help, Usage}
use Rattle.command_io.specs.Words.{AsksFor}
use Rattle.command_io.specs.Telling.{Output, IsTold}

-- A command whose work changes what stands outside, S, and which ends so, E.
pub record Command (S E : Type 0) : Type 1 where
  -- its words
  pub app : App
  -- what its work comes to
  pub works : S → S → E → Type 0
  -- what is written of each end, and its status
  pub text : E → List ℕ
  pub status : E → ℕ
  -- the ends of a call for help, of wrong words, and of want of memory
  pub help : E
  pub usage : E
  pub memory : E

-- what was asked for was done; nothing where memory ran out at the words
abbrev pub IsAnswered : {S E : Type 0} → Command S E → Option Asked → S → S → E → Type 0
IsAnswered command None before after end = (after ≡ before) × (end ≡ command.memory)
IsAnswered command (Some Work) before after end = command.works before after end
IsAnswered command (Some Help) before after end = (after ≡ before) × (end ≡ command.help)
IsAnswered command (Some Usage) before after end = (after ≡ before) × (end ≡ command.usage)

abbrev pub IsAsked : App → List (List ℕ) → Option Asked → Type 0
IsAsked app words None = Unit {0}
IsAsked app words (Some asked) = AsksFor app words asked

-- what the words ask for came to this end
pub record Ends {S E : Type 0} (command : Command S E) (words : List (List ℕ)) (before after : S) (end : E) : Type 0 where
  pub asked : Option Asked
  pub asks : IsAsked command.app words asked
  pub answered : IsAnswered command asked before after end

-- A run of a command on these words: how it ended was told.
pub record IsRun {S E : Type 0} (command : Command S E) (words : List (List ℕ)) (before after : S) (out out' : Output) (status : ℕ) : Type 0 where
  pub end : E
  pub ends : Ends command words before after end
  pub told : IsTold out out' (command.text end) (command.status end) status

-- A run that does the command's work, or wants memory before that.
pub record IsWorkRun {S E : Type 0} (command : Command S E) (before after : S) (out out' : Output) (status : ℕ) : Type 0 where
  pub end : E
  pub works : command.works before after end
  pub told : IsTold out out' (command.text end) (command.status end) status

-- A run that writes the help, and does nothing else.
pub record IsHelpRun {S E : Type 0} (command : Command S E) (before after : S) (out out' : Output) (status : ℕ) : Type 0 where
  pub untouched : after ≡ before
  pub told : IsTold out out' (command.text command.help) (command.status command.help) status
