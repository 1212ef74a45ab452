-- A line by itself: the pieces that it is made of.
use Rattle.std.specs.Prelude.{ℕ, ◌+◌, Bool, false, ◌&&◌, ◌||◌, ◌==◌, not, if◌then◌else◌, List, [], ◌∷◌, Option, Some, None}
use Rattle.proto_wire.specs.declared.module_kind.ModuleKind.{ModuleKind}
use Rattle.proto_wire.specs.declared.module_kind.ModuleKind.TheVariants.{Tab, Directive, Quote, Indent, Colon}
use Rattle.yaml_block.specs.declared.piece.Head.{Head}
use Rattle.yaml_block.specs.declared.piece.Head.TheVariants as head
use Rattle.yaml_block.specs.declared.piece.Inline.{Inline}
use Rattle.yaml_block.specs.declared.piece.Inline.TheVariants as inline
use Rattle.yaml_block.specs.declared.piece.Piece.{Piece}
use Rattle.yaml_block.specs.declared.piece.Line.{Line}
use Rattle.yaml_block.specs.declared.piece.Line.TheVariants as a_line
use Rattle.yaml_block.specs.Scalars.{is_white, past_white, is_over, is_gap, is_item, plain, cut_at_colon, quoted, is_quote, foreign}

-- ---- a value on its key's line (YAML 1.2, section 8.2.2)

-- A quoted value is alone on the rest of its line.
abbrev pub quoted_value : Option (List ℕ × List ℕ) → Inline
quoted_value None = inline.Refused Quote
quoted_value (Some x) = if is_over x.1 then inline.Scalar x.0 else inline.Refused Quote

-- A plain value has no colon with a gap in it.
abbrev pub plain_value : Option ModuleKind → Option (List ℕ × List ℕ) → List ℕ → Inline
plain_value (Some kind) cut scalar = inline.Refused kind
plain_value None (Some x) scalar = inline.Refused Colon
plain_value None None scalar = inline.Scalar scalar

-- from a first byte on that is not white
abbrev pub value_on : ℕ → List ℕ → Inline
value_on b bs =
    if b == 35 then inline.Nothing
    else (if is_item b bs then inline.Refused Indent
    else (if is_quote b then quoted_value (quoted b bs)
    else plain_value (foreign b bs) (cut_at_colon (b ∷ bs)) (plain (b ∷ bs))))

abbrev pub value_from : List ℕ → Inline
value_from [] = inline.Nothing
value_from (b ∷ bs) = value_on b bs

-- what stands behind a colon
abbrev pub inline_on : List ℕ → Inline
inline_on bs = value_from (past_white bs)

-- ---- an entry or a scalar, from its first byte on (section 8.2.2)

-- what follows a colon with a gap
abbrev pub behind_colon : List ℕ → Option (List ℕ)
behind_colon [] = None
behind_colon (b ∷ bs) = if b == 58 && is_gap bs then Some bs else None

abbrev pub quoted_entry : Option (List ℕ) → List ℕ → List ℕ → Head
quoted_entry (Some value) content rest = head.Entry content (inline_on value)
quoted_entry None content rest = if is_over rest then head.Scalar content else head.Refused Quote

-- A quoted scalar is a key where a colon with a gap follows at once.
abbrev pub quoted_head : Option (List ℕ × List ℕ) → Head
quoted_head None = head.Refused Quote
quoted_head (Some x) = quoted_entry (behind_colon x.1) x.0 x.1

-- No key is empty.
abbrev pub plain_entry : List ℕ → List ℕ → Head
plain_entry [] value = head.Refused Colon
plain_entry (b ∷ bs) value = head.Entry (plain (b ∷ bs)) (inline_on value)

-- A plain scalar is cut at its first colon with a gap: what stands before is the key.
abbrev pub plain_head : Option ModuleKind → Option (List ℕ × List ℕ) → List ℕ → Head
plain_head (Some kind) cut scalar = head.Refused kind
plain_head None (Some x) scalar = plain_entry x.0 x.1
plain_head None None scalar = head.Scalar scalar

abbrev pub head_on : ℕ → List ℕ → Head
head_on b bs = if is_quote b then quoted_head (quoted b bs) else plain_head (foreign b bs) (cut_at_colon (b ∷ bs)) (plain (b ∷ bs))

-- ---- a line (sections 6.1, 8.2.1 and 9.1)

abbrev pub piece : ℕ → ℕ → Head → Piece
piece line column head = record { line = line; column = column; head = head }

-- Each `-` of an item is a piece at its column, and so is what follows the last of them. A comment is none.
abbrev pub pieces_on : ℕ → ℕ → List ℕ → List Piece
pieces_on line column [] = []
pieces_on line column (b ∷ bs) =
    if is_white b then pieces_on line (column + 1) bs
    else (if b == 35 then []
    else (if is_item b bs then piece line column head.Item ∷ pieces_on line (column + 1) bs
    else piece line column (head_on b bs) ∷ []))

abbrev pub refused_line : ℕ → ModuleKind → Line
refused_line line kind = a_line.Pieces (piece line 0 (head.Refused kind) ∷ [])

-- whether a tab is among the white space that the line begins with
abbrev pub has_tab : List ℕ → Bool
has_tab [] = false
has_tab (b ∷ bs) = b == 9 || (b == 32 && has_tab bs)

-- No `%` stands first on a line, and no tab before what stands on it. A line that is over at once has no pieces, tab or no tab.
abbrev pub other_line : ℕ → List ℕ → Line
other_line line [] = a_line.Pieces []
other_line line (b ∷ bs) =
    if b == 37 then refused_line line Directive
    else (if has_tab (b ∷ bs) && not (is_over (b ∷ bs)) then refused_line line Tab
    else a_line.Pieces (pieces_on line 0 (b ∷ bs)))

-- what follows `---` or `...`
abbrev pub behind_mark : List ℕ → Option (List ℕ)
behind_mark (a ∷ b ∷ c ∷ rest) = if (a == 45 || a == 46) && (b == a && c == a) then Some rest else None
behind_mark _ = None

abbrev pub starts_white : List ℕ → Bool
starts_white [] = false
starts_white (b ∷ bs) = is_white b

-- A mark is alone on its line. Behind one that white space follows there is nothing but a comment.
abbrev pub marked_line : ℕ → Option (List ℕ) → List ℕ → Line
marked_line line None bs = other_line line bs
marked_line line (Some rest) bs = if is_over rest then a_line.Mark else (if starts_white rest then refused_line line Indent else other_line line bs)

-- the line with this number and these bytes
abbrev pub line_on : ℕ → List ℕ → Line
line_on line bs = marked_line line (behind_mark bs) bs
