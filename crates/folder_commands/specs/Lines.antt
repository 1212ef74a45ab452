-- The lines that `append` reads, and the records that they make.
use Rattle.std.specs.Prelude.{◌≡◌, ◌+◌, ℕ, length, take, Bool, true, false, ◌==◌, ◌&&◌, ◌||◌, not, nat_le, nat_lt, if◌then◌else◌, List, [], ◌∷◌, ◌++◌, is_some, Option, Some, None}
use Rattle.std.specs.List.{slice_split, position_or_len, before_first, after_first}
use Rattle.std.specs.Option.{option_to_list}
use Rattle.std.specs.Str.{is_utf8}
use Rattle.proto_wire.specs.Message.{spelling}
use Rattle.typed_values.specs.Wrappers.{text_rows}
use Rattle.sf_outside.specs.declared.ingress.IngressRecord.{IngressRecord}
use Rattle.folder_commands.specs.declared.append_lines.Appended.{Appended}
use Rattle.folder_commands.specs.LogText.{log_text}

abbrev pub is_feed : ℕ → Bool
is_feed byte = byte == 10

abbrev pub is_tab : ℕ → Bool
is_tab byte = byte == 9

-- ---- a line

-- the record of a key and a string
abbrev pub keyed : List ℕ → List ℕ → IngressRecord
keyed key text = record { key = key; value = spelling text_rows (record { text = text }) }

-- the record that a line makes, with its key up to the first tab
unfoldable pub record_in : List ℕ → Option IngressRecord
record_in line = if is_utf8 line && nat_lt (position_or_len is_tab line) (length line) then Some (keyed (before_first is_tab line) (after_first is_tab line)) else None

-- ---- lines

-- the most bytes of input
abbrev pub limit : ℕ
limit = 67108864

-- what line feeds cut a text into
abbrev pub parts_of : List ℕ → List (List ℕ)
parts_of text = slice_split is_feed text

-- what stands behind the last line feed is a line too, unless it is empty, or the text goes on
abbrev pub last_line : Bool → List ℕ → List (List ℕ)
last_line true (byte ∷ bytes) = (byte ∷ bytes) ∷ []
last_line true [] = []
last_line false last = []

abbrev pub lines_of : Bool → List (List ℕ) → List (List ℕ)
lines_of whole [] = []
lines_of whole (last ∷ []) = last_line whole last
lines_of whole (line ∷ next ∷ parts) = line ∷ lines_of whole (next ∷ parts)

-- the records of lines, down to the first that makes none
abbrev pub good : List (List ℕ) → List IngressRecord
good [] = []
good (line ∷ lines) = if is_some (record_in line) then option_to_list (record_in line) ++ good lines else []

-- whether one makes none
abbrev pub has_bad : List (List ℕ) → Bool
has_bad [] = false
has_bad (line ∷ lines) = if is_some (record_in line) then has_bad lines else true

-- the lines of an input, of which one byte past the limit tells that it is too long: those that end within the limit
abbrev pub is_whole : List ℕ → Bool
is_whole heard = nat_le (length heard) limit

unfoldable pub lines_in : List ℕ → List (List ℕ)
lines_in heard = lines_of (is_whole heard) (parts_of (take limit heard))

-- the records of an input, and whether a line is bad: it makes none, or does not end within the limit
abbrev pub records_in : List ℕ → List IngressRecord
records_in heard = good (lines_in heard)

abbrev pub is_bad : List ℕ → Bool
is_bad heard = has_bad (lines_in heard) || not (is_whole heard)

-- ---- how far a text was read

-- all lines of a text were read
pub record IsReadTo (whole : Bool) (text : List ℕ) (made : Appended) : Type 0 where
  pub log : made.log ≡ log_text (good (lines_of whole (parts_of text)))
  pub records : made.records ≡ length (good (lines_of whole (parts_of text)))
  pub bad : made.bad ≡ (has_bad (lines_of whole (parts_of text)) || not whole)

-- some were, each of which made a record, and these are left
pub record GoesOn (whole : Bool) (text log : List ℕ) (count : ℕ) (rest : List (List ℕ)) : Type 0 where
  pub front : List IngressRecord
  pub log_is : log ≡ log_text front
  pub count_is : count ≡ length front
  pub good_is : good (lines_of whole (parts_of text)) ≡ front ++ good rest
  pub bad_is : has_bad (lines_of whole (parts_of text)) ≡ has_bad rest
