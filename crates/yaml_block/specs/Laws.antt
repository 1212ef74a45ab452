-- Words for the laws of the profile.
use Rattle.std.specs.Prelude.{◌≡◌, ◌⊎◌, ◌≤◌, ℕ, ◌+◌, ◌-◌, nat_le, if◌then◌else◌, true, List, []}
use Rattle.std.specs.Prelude.{◌∷◌, ◌++◌, length, map, drop, slice_get, Some, None, Result, Ok, Err}
use Rattle.std.specs.Str.{IsUtf8}
use Rattle.yaml_block.specs.declared.piece.Piece.{Piece}
use Rattle.yaml_block.specs.declared.piece.Head.TheVariants as head
use Rattle.yaml_block.specs.declared.node.Node.{Node, out-Node}
use Rattle.yaml_block.specs.Scalars.{is_item}
use Rattle.yaml_block.specs.Lines.{head_on}
use Rattle.yaml_block.specs.Layout.{Forest, none, grown, pieces_of, IsLaid}
use Rattle.yaml_block.specs.Trees.{refusal, opened, block, unreadable}
use Rattle.yaml_block.specs.Documents.{lines, documents, trees, most_bytes, without_mark, Refused}

-- what the profile looks into
abbrev pub IsReadable : List ℕ → Type 0
IsReadable text = (length text ≤ most_bytes) × IsUtf8 text

-- what these lines mean, in a text that can be looked into
abbrev pub meaning : List (List ℕ) → Result (List Node) Refused
meaning ls = trees 1 (documents 1 ls)

-- ---- trees, said without an order of work

-- Laid by their indentation the pieces have no refusal, and this is their tree.
abbrev pub IsTreeOf : List Piece → Node → Type 0
IsTreeOf ps n = (f : Forest) × (pieces_of f ≡ ps) × IsLaid f × (refusal 1 (opened f) [] f ≡ None) × (n ≡ block 0 f)

-- One tree for each document that has a piece, in their order.
abbrev pub AreTreesOf : List (List Piece) → List Node → Type 0
AreTreesOf [] ns = ns ≡ []
AreTreesOf ([] ∷ ds) ns = AreTreesOf ds ns
AreTreesOf ((p ∷ ps) ∷ ds) [] = ⊥
AreTreesOf ((p ∷ ps) ∷ ds) (n ∷ ns) = IsTreeOf (p ∷ ps) n × AreTreesOf ds ns

abbrev pub HasTrees : List ℕ → List Node → Type 0
HasTrees text ns = IsReadable text × AreTreesOf (documents 1 (lines (without_mark text))) ns

-- ---- other numbers of lines

abbrev pub moved_piece : (ℕ → ℕ) → Piece → Piece
moved_piece g p = record { line = g p.line; column = p.column; head = p.head }

abbrev pub moved : (ℕ → ℕ) → Forest → Forest
moved g none = none
moved g (grown p under after) = grown (moved_piece g p) (moved g under) (moved g after)

-- Two meanings that are alike but for the numbers of their lines: the same pieces laid in the same way, or the same refusal.
abbrev pub IsMoved : (ℕ → ℕ) → Result (List Node) Refused → Result (List Node) Refused → Type 0
IsMoved g (Ok ns) (Ok ms) = (fs : List Forest) × (ns ≡ map (block 0) fs) × (ms ≡ map (λ f. block 0 (moved g f)) fs)
IsMoved g (Err r) (Err s) = (s.0 ≡ r.0) × (s.1 ≡ record { line = g r.1.line; kind = r.1.kind })
IsMoved g (Ok ns) (Err s) = ⊥
IsMoved g (Err r) (Ok ms) = ⊥

-- the numbers of lines, where one more stands behind the first n
abbrev pub one_more_behind : ℕ → ℕ → ℕ
one_more_behind n line = if nat_le line n then line else line + 1

-- ---- places

-- A piece that is readable begins on a line at its column: with the `-` of an item, or with what makes its head.
abbrev pub BeginsOn : List ℕ → Piece → Type 0
BeginsOn line p = (b : ℕ) × (bs : List ℕ) × (drop p.column line ≡ b ∷ bs) × ((p.head ≡ head.Item) × (is_item b bs ≡ true) ⊎ (p.head ≡ head_on b bs))

abbrev pub StandsIn : List (List ℕ) → Piece → Type 0
StandsIn ls p = (line : List ℕ) × (1 ≤ p.line) × (slice_get ls (p.line - 1) ≡ Some line) × (unreadable p.head ≡ None → BeginsOn line p)

abbrev pub line_of_node : Node → ℕ
line_of_node n = (out-Node n).line

-- ---- documents

abbrev pub before_trees : List Node → Result (List Node) Refused → Result (List Node) Refused
before_trees ns (Ok ms) = Ok (ns ++ ms)
before_trees ns (Err r) = Err r

-- trees, and those of the documents behind them, which are told how many stand before
abbrev pub then_others : Result (List Node) Refused → (ℕ → Result (List Node) Refused) → Result (List Node) Refused
then_others (Err r) others = Err r
then_others (Ok ns) others = before_trees ns (others (length ns))
