-- The words `run MODULE FOLDER` and behind them options in any order, and what they ask for.
use Rattle.std.specs.Prelude.{◌≡◌, ℕ, ◌+◌, ◌<◌, ◌≤◌, nat_eq, nat_lt, nat_le, codes, List, [], ◌∷◌, ◌++◌, Bool, true, false, not, ◌&&◌, ◌||◌, ◌==◌, length}
use Rattle.std.specs.Prelude.{take, drop, slice_index, if◌then◌else◌, is_some, Option, Some, None, option_and_then, bytes_eq, Result, Ok, Err}
use Rattle.std.specs.List.{starts_with}
use Rattle.std.specs.Str.{all_ascii_digits}
use Rattle.std.specs.Str.Parse.{digits_value}
use Rattle.run_words.specs.declared.words.RunWords.{RunWords}
use Rattle.run_words.specs.declared.words.WordsFault.{WordsFault}
use Rattle.run_words.specs.declared.reading.Key.{Key}
use Rattle.run_words.specs.declared.reading.Key.TheVariants.{Partitions, Every, Turns}
use Rattle.run_words.specs.declared.reading.Place.{Place}
use Rattle.run_words.specs.declared.reading.Place.TheVariants.{Command, Module, Folder, Options, Value}
use Rattle.run_words.specs.declared.reading.Asked.{Asked}
use Rattle.run_words.specs.declared.reading.Reading.{Reading}

abbrev pub Word : Type 0
Word = List ℕ

-- ---- what single words say

-- the name of a file or a folder is not empty and does not begin with `-`
abbrev pub is_name : Word → Bool
is_name [] = false
is_name (byte ∷ bytes) = not (byte == 45)

abbrev pub within : ℕ → ℕ → Option ℕ
within most n = if nat_lt 0 n && nat_le n most then Some n else None

-- a number from 1 to a bound, in decimal digits without a leading zero
unfoldable pub number_in : ℕ → Word → Option ℕ
number_in most word = if all_ascii_digits word && not (slice_index word 0 == 48) then within most (digits_value 10 word) else None

abbrev pub option_of : Key → Word
option_of Partitions = codes "--partitions"
option_of Every = codes "--every"
option_of Turns = codes "--turns"

-- `--option=`, with its value behind
abbrev pub joined_of : Key → Word
joined_of Partitions = codes "--partitions="
joined_of Every = codes "--every="
joined_of Turns = codes "--turns="

abbrev pub joined_in : Key → Word → Option Word
joined_in key word = if starts_with nat_eq word (joined_of key) then Some (drop (length (joined_of key)) word) else None

-- all addresses are in one partition; a checkpoint is taken at least every 1,000,000 legs
abbrev pub most_of : Key → ℕ
most_of Partitions = 1
most_of Every = 1000000
most_of Turns = 1000000000

-- the option that a word names, with its value or without
abbrev pub names : Key → Word → Bool
names key word = bytes_eq word (option_of key) || is_some (joined_in key word)

unfoldable pub key_in : Word → Option Key
key_in word = if names Partitions word then Some Partitions else (if names Every word then Some Every else (if names Turns word then Some Turns else None))

-- ---- what was asked for so far

abbrev pub nothing : Asked
nothing = record { partitions = None; every = None; turns = None; drain = false }

abbrev pub value_of : Key → Asked → Option ℕ
value_of Partitions asked = asked.partitions
value_of Every asked = asked.every
value_of Turns asked = asked.turns

abbrev pub with_value : Key → ℕ → Asked → Asked
with_value Partitions n asked = record asked { partitions = Some n }
with_value Every n asked = record asked { every = Some n }
with_value Turns n asked = record asked { turns = Some n }

abbrev pub at : Place → Asked → Reading
at place asked = record { place = place; asked = asked }

-- ---- where reading goes on behind a word; None where it is wrong

abbrev pub valued : Key → Asked → Option ℕ → Option Reading
valued key asked None = None
valued key asked (Some n) = Some (at Options (with_value key n asked))

abbrev pub read_value : Key → Asked → Word → Option Reading
read_value key asked word = valued key asked (number_in (most_of key) word)

-- an option stands once; its value is the next word, or stands behind `=`
unfoldable pub read_key : Key → Asked → Word → Option Reading
read_key key asked word =
    if is_some (value_of key asked) then None
    else (if bytes_eq word (option_of key) then Some (at (Value key) asked) else option_and_then (read_value key asked) (joined_in key word))

abbrev pub read_drain : Asked → Word → Option Reading
read_drain asked word = if bytes_eq word (codes "--drain") && not asked.drain then Some (at Options (record asked { drain = true })) else None

abbrev pub read_keyed : Asked → Word → Option Key → Option Reading
read_keyed asked word None = read_drain asked word
read_keyed asked word (Some key) = read_key key asked word

abbrev pub goes_on : Bool → Place → Asked → Option Reading
goes_on is_right place asked = if is_right then Some (at place asked) else None

abbrev pub read_at : Place → Asked → Word → Option Reading
read_at Command asked word = goes_on (bytes_eq word (codes "run")) Module asked
read_at Module asked word = goes_on (is_name word) Folder asked
read_at Folder asked word = goes_on (is_name word) Options asked
read_at Options asked word = read_keyed asked word (key_in word)
read_at (Value key) asked word = read_value key asked word

unfoldable pub read_word : Reading → Word → Option Reading
read_word reading word = read_at reading.place reading.asked word

-- ---- all words

abbrev pub asked_with : Option ℕ → Option ℕ → Option ℕ → Bool → Option RunWords
asked_with (Some partitions) (Some every) (Some turns) drain = Some (record { every = every; turns = turns; drain = drain })
asked_with None every turns drain = None
asked_with (Some partitions) None turns drain = None
asked_with (Some partitions) (Some every) None drain = None

abbrev pub asked_at : Place → Asked → Option RunWords
asked_at Command asked = None
asked_at Module asked = None
asked_at Folder asked = None
asked_at Options asked = asked_with asked.partitions asked.every asked.turns asked.drain
asked_at (Value key) asked = None

-- what was asked for where no word follows; None where something is missing
unfoldable pub asked_by : Reading → Option RunWords
asked_by reading = asked_at reading.place reading.asked

abbrev pub or_missing : ℕ → Option RunWords → Result RunWords ℕ
or_missing place None = Err place
or_missing place (Some words) = Ok words

abbrev pub or_wrong : ℕ → (Reading → Result RunWords ℕ) → Option Reading → Result RunWords ℕ
or_wrong place read_behind None = Err place
or_wrong place read_behind (Some reading) = read_behind reading

-- What words from a place on ask for: or the place of the first wrong one, or that of their end where something is missing.
abbrev pub read_on : ℕ → Reading → List Word → Result RunWords ℕ
read_on place reading [] = or_missing place (asked_by reading)
read_on place reading (word ∷ words) = or_wrong place (λ behind. read_on (place + 1) behind words) (read_word reading word)

unfoldable pub words_asked : List Word → Result RunWords ℕ
words_asked words = read_on 0 (at Command nothing) words

-- ---- where words are wrong

-- right words begin with these
abbrev pub BeginRight : List Word → Type 0
BeginRight words = (rest : List Word) × (asked : RunWords) × (words_asked (words ++ rest) ≡ Ok asked)

-- the first word with which words no longer begin right words, or their number where something is missing
pub record IsFirstWrong (words : List Word) (place : ℕ) : Type 0 where
  pub within : place ≤ length words
  pub before : BeginRight (take place words)
  pub here : place < length words → ¬ BeginRight (take (place + 1) words)

-- what an answer says of words that are read so
abbrev pub AsksFor : Result RunWords ℕ → Result RunWords WordsFault → Type 0
AsksFor read (Ok words) = read ≡ Ok words
AsksFor read (Err fault) = read ≡ Err fault.word
