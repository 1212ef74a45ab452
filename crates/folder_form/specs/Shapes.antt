-- What the text of a folder's job says: over how many partitions its addresses are spread, and how many splits it reads.
use Rattle.std.specs.Prelude.{ℕ, List, [], ◌∷◌, codes, map, sum, not, ◌&&◌, ◌==◌, nat_le, if◌then◌else◌, bytes_eq, slice_get, slice_index, Option, Some, None, option_and_then}
use Rattle.std.specs.Option.{option_map, unwrap_or}
use Rattle.std.specs.List.{slice_split}
use Rattle.std.specs.Str.{all_ascii_digits}
use Rattle.std.specs.Str.Parse.{digits_value}
use Rattle.proto_wire.specs.Message.{capped}
use Rattle.folder_form.specs.declared.shape.Shape.{Shape}

-- the parts that a byte cuts bytes into
abbrev pub parts_at : ℕ → List ℕ → List (List ℕ)
parts_at mark bytes = slice_split (λ byte. byte == mark) bytes

-- lines end at LF, and words at a space
abbrev pub lines_of : List ℕ → List (List ℕ)
lines_of text = parts_at 10 text

abbrev pub words_of : List ℕ → List (List ℕ)
words_of line = parts_at 32 line

-- the number that decimal digits without a leading zero write, from 1 to a bound
abbrev pub within : ℕ → ℕ → Option ℕ
within most number = if nat_le 1 number && nat_le number most then Some number else None

unfoldable pub number_up_to : ℕ → List ℕ → Option ℕ
number_up_to most word = if all_ascii_digits word && not (slice_index word 0 == 48) then within most (digits_value 10 word) else None

-- a line `ingress NAME SPLITS ..`, with 1 to 32 splits, names so many; every other line names none
abbrev pub splits_of_words : List (List ℕ) → ℕ
splits_of_words [] = 0
splits_of_words (word ∷ words) = if bytes_eq word (codes "ingress") then unwrap_or (option_and_then (number_up_to 32) (slice_get words 1)) 0 else 0

abbrev pub splits_of_line : List ℕ → ℕ
splits_of_line line = splits_of_words (words_of line)

unfoldable pub splits_in : List ℕ → ℕ
splits_in text = capped (sum (map splits_of_line (lines_of text)))

-- the first line is `partitions P`, with P from 1 to 16
abbrev pub partitions_of_words : List (List ℕ) → Option ℕ
partitions_of_words (word ∷ number ∷ []) = if bytes_eq word (codes "partitions") then number_up_to 16 number else None
partitions_of_words words = None

abbrev pub partitions_of_lines : List (List ℕ) → Option ℕ
partitions_of_lines [] = None
partitions_of_lines (line ∷ lines) = partitions_of_words (words_of line)

unfoldable pub partitions_in : List ℕ → Option ℕ
partitions_in text = partitions_of_lines (lines_of text)

unfoldable pub shape_in : List ℕ → Option Shape
shape_in text = option_map (λ partitions. record { partitions = partitions; splits = splits_in text }) (partitions_in text)
