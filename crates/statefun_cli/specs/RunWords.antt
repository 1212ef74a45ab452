-- The words `run MODULE --turns N`, and what they ask for.
use Rattle.std.specs.Prelude.{◌≡◌, ℕ, ◌+◌, ◌<◌, ◌≤◌, nat_eq, nat_lt, nat_le, codes, List, [], ◌∷◌, ◌++◌, Bool, false, not, ◌&&◌, ◌==◌, length}
use Rattle.std.specs.Prelude.{take, drop, slice_get, slice_index, if◌then◌else◌, Option, Some, None, option_and_then, Result, Ok, Err}
use Rattle.std.specs.Option.{option_map_or, ok_or}
use Rattle.std.specs.List.{starts_with}
use Rattle.std.specs.Str.{all_ascii_digits}
use Rattle.std.specs.Str.Parse.{digits_value}
use Rattle.typed_values.specs.Sameness.{same_bytes}
use Rattle.statefun_cli.specs.declared.run_words.RunWords.{RunWords}
use Rattle.statefun_cli.specs.declared.end.WordsFault.{WordsFault}

-- ---- what each word says, or nothing where it is wrong

abbrev pub command_in : List ℕ → Option (List ℕ)
command_in word = if same_bytes word (codes "run") then Some word else None

-- the name of a file is not empty and does not begin with `-`
abbrev pub file_in : List ℕ → Option (List ℕ)
file_in [] = None
file_in (byte ∷ bytes) = if byte == 45 then None else Some (byte ∷ bytes)

-- from 1 to 1,000,000,000
abbrev pub turns_within : ℕ → Option ℕ
turns_within n = if nat_lt 0 n && nat_le n 1000000000 then Some n else None

-- decimal digits without a leading zero
unfoldable pub turns_in : List ℕ → Option ℕ
turns_in word = if all_ascii_digits word && not (slice_index word 0 == 48) then turns_within (digits_value 10 word) else None

-- `--turns=N`
abbrev pub joined_turns_in : List ℕ → Option ℕ
joined_turns_in word = if starts_with nat_eq word (codes "--turns=") then turns_in (drop 8 word) else None

-- ---- reading at a place: what the word there says, or the place where it is wrong or missing

unfoldable pub read_at : {A : Type 0} → (List ℕ → Option A) → List (List ℕ) → ℕ → Result A ℕ
read_at read words place = ok_or (option_and_then read (slice_get words place)) place

infixl 10 ◌>>=◌
abbrev pub ◌>>=◌ : {A B : Type 0} → Result A ℕ → (A → Result B ℕ) → Result B ℕ
Ok x >>= f = f x
Err place >>= f = Err place

-- no word stands at a place
abbrev pub ended_at : {A : Type 0} → A → ℕ → Option (List ℕ) → Result A ℕ
ended_at x place None = Ok x
ended_at x place (Some word) = Err place

abbrev pub ending_at : {A : Type 0} → List (List ℕ) → ℕ → A → Result A ℕ
ending_at words place x = ended_at x place (slice_get words place)

abbrev pub is_at : List (List ℕ) → ℕ → List ℕ → Bool
is_at words place word = option_map_or (same_bytes word) (slice_get words place) false

-- from place 2 on `--turns N` or `--turns=N`, and nothing behind
unfoldable pub turns_of : List (List ℕ) → Result ℕ ℕ
turns_of words =
    if is_at words 2 (codes "--turns")
    then read_at turns_in words 3 >>= ending_at words 4
    else read_at joined_turns_in words 2 >>= ending_at words 3

-- The turns that right words ask for. Of wrong ones the place of the first word with which they no longer begin right words,
-- or their number where something is missing.
unfoldable pub turns_asked : List (List ℕ) → Result ℕ ℕ
turns_asked words = do
  command ← read_at command_in words 0
  file ← read_at file_in words 1
  turns_of words

-- ---- where words are wrong

-- right words begin with these
abbrev pub BeginRight : List (List ℕ) → Type 0
BeginRight words = (rest : List (List ℕ)) × (turns : ℕ) × (turns_asked (words ++ rest) ≡ Ok turns)

-- the first word with which words no longer begin right words, or their number where something is missing
pub record IsFirstWrong (words : List (List ℕ)) (place : ℕ) : Type 0 where
  pub within : place ≤ length words
  pub before : BeginRight (take place words)
  pub here : place < length words → ¬ BeginRight (take (place + 1) words)

-- what an answer says of words that are read so
abbrev pub Reads : {A : Type 0} → Result A ℕ → Result A WordsFault → Type 0
Reads read (Ok x) = read ≡ Ok x
Reads read (Err fault) = read ≡ Err fault.word

-- and of the words of a run
abbrev pub AsksFor : Result ℕ ℕ → Result RunWords WordsFault → Type 0
AsksFor read (Ok words) = read ≡ Ok words.turns
AsksFor read (Err fault) = read ≡ Err fault.word
