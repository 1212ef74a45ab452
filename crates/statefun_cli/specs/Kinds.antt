-- The words for the kinds of messages.
use Rattle.std.specs.Prelude.{◌≡◌, ◌≢◌, codes, ℕ, List, Result, Ok, Err}
use Rattle.statefun_cli.specs.declared.decode_words.MessageKind.{MessageKind}
use Rattle.statefun_cli.specs.declared.decode_words.MessageKind.TheVariants.{Request, Answer}
use Rattle.statefun_cli.specs.declared.decode_words.UnknownKind.{UnknownKind}

-- a request goes to a function, an answer comes from it
abbrev pub word_of : MessageKind → List ℕ
word_of Request = codes "to"
word_of Answer = codes "from"

-- the kind that a text names, if any
abbrev pub IsNamed : List ℕ → Result MessageKind UnknownKind → Type 0
IsNamed text (Ok kind) = text ≡ word_of kind
IsNamed text (Err none) = (kind : MessageKind) → text ≢ word_of kind
