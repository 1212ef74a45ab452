-- A text: its lines, its documents, and their trees or the first refusal.
use Rattle.std.specs.Prelude.{◌≡◌, ℕ, ◌+◌, Bool, false, not, ◌&&◌, ◌==◌, nat_lt, if◌then◌else◌, List}
use Rattle.std.specs.Prelude.{[], ◌∷◌, ◌++◌, length, take, count_by, Option, Some, None, Result, Ok, Err}
use Rattle.std.specs.Str.{is_utf8}
use Rattle.std.specs.Str.Lossy.{utf8_valid_len}
use Rattle.proto_wire.specs.declared.module_kind.ModuleKind.TheVariants.{NotUtf8, TooLong}
use Rattle.yaml_block.specs.declared.piece.Piece.{Piece}
use Rattle.yaml_block.specs.declared.piece.Line.{Line}
use Rattle.yaml_block.specs.declared.piece.Line.TheVariants as a_line
use Rattle.yaml_block.specs.declared.fault.Refusal.{Refusal}
use Rattle.yaml_block.specs.declared.fault.YamlFault.{YamlFault}
use Rattle.yaml_block.specs.declared.fault.YamlFault.TheVariants as fault
use Rattle.yaml_block.specs.declared.node.Node.{Node}
use Rattle.yaml_block.specs.Layout.{Forest, forest}
use Rattle.yaml_block.specs.Trees.{refusal, opened, block}
use Rattle.yaml_block.specs.Lines.{line_on}

-- ---- lines (YAML 1.2, section 5.4)

abbrev pub begins_with : ℕ → List ℕ → Bool
begins_with a [] = false
begins_with a (b ∷ bs) = b == a

abbrev pub onto_first : ℕ → List (List ℕ) → List (List ℕ)
onto_first b [] = (b ∷ []) ∷ []
onto_first b (l ∷ ls) = (b ∷ l) ∷ ls

-- A line ends with LF or CR LF, and the last at the text's end.
abbrev pub lines : List ℕ → List (List ℕ)
lines [] = [] ∷ []
lines (b ∷ bs) = if b == 10 then [] ∷ lines bs else (if b == 13 && begins_with 10 bs then lines bs else onto_first b (lines bs))

-- ---- documents, each as the pieces of its lines (section 9)

unfoldable pub line_of : ℕ → List ℕ → Line
line_of number bs = line_on number bs

-- A mark stands between two documents. Every other line belongs to one.
abbrev pub and_line : Line → List (List Piece) → List (List Piece)
and_line a_line.Mark documents = [] ∷ documents
and_line (a_line.Pieces ps) [] = ps ∷ []
and_line (a_line.Pieces ps) (d ∷ ds) = (ps ++ d) ∷ ds

-- of these lines, the first with this number
abbrev pub documents : ℕ → List (List ℕ) → List (List Piece)
documents number [] = [] ∷ []
documents number (l ∷ ls) = and_line (line_of number l) (documents (number + 1) ls)

-- ---- trees

-- a refusal, in which document
abbrev pub Refused : Type 0
Refused = ℕ × Refusal

-- a document's refusal, or its tree before those of the others
abbrev pub and_tree : ℕ → Option Refusal → Node → Result (List Node) Refused → Result (List Node) Refused
and_tree number (Some r) tree others = Err (number, r)
and_tree number None tree (Ok trees) = Ok (tree ∷ trees)
and_tree number None tree (Err r) = Err r

abbrev pub document : ℕ → Forest → Result (List Node) Refused → Result (List Node) Refused
document number f others = and_tree number (refusal 1 (opened f) [] f) (block 0 f) others

-- A document without a piece has no node, and no number.
abbrev pub trees : ℕ → List (List Piece) → Result (List Node) Refused
trees number [] = Ok []
trees number ([] ∷ ds) = trees number ds
trees number ((p ∷ ps) ∷ ds) = document number (forest (p ∷ ps)) (trees (number + 1) ds)

-- ---- texts

abbrev pub most_bytes : ℕ
most_bytes = 1048576

-- a text without the byte order mark that it may begin with (section 5.2)
abbrev pub without_mark : List ℕ → List ℕ
without_mark (a ∷ b ∷ c ∷ rest) = if a == 239 && (b == 187 && c == 191) then rest else a ∷ b ∷ c ∷ rest
without_mark text = text

-- the line of the first byte that is not UTF-8
abbrev pub bad_line : List ℕ → ℕ
bad_line bytes = count_by (λ b. b == 10) (take (utf8_valid_len bytes) bytes) + 1

-- what a text means
unfoldable pub read : List ℕ → Result (List Node) Refused
read bytes =
    if nat_lt most_bytes (length bytes) then Err (0, record { line = 0; kind = TooLong })
    else (if not (is_utf8 bytes) then Err (0, record { line = bad_line bytes; kind = NotUtf8 })
    else trees 1 (documents 1 (lines (without_mark bytes))))

-- A fault tells of a refusal. Want of memory tells nothing.
abbrev pub IsToldBy : YamlFault → Result (List Node) Refused → Type 0
IsToldBy fault.OutOfMemory meaning = Unit {0}
IsToldBy (fault.Refused document line kind) meaning = meaning ≡ Err (document, record { line = line; kind = kind })
