-- Not needed to know what a text means: what the reader's private functions answer.
use Rattle.std.specs.Prelude.{◌≡◌, ℕ, ◌+◌, Bool, if◌then◌else◌, List, [], ◌∷◌, ◌++◌, length, drop, slice_index, ◌==◌, ◌&&◌, Option, Some, None, Result, Ok, Err}
use Rattle.proto_wire.specs.declared.module_kind.ModuleKind.{ModuleKind}
use Rattle.proto_wire.specs.declared.module_kind.ModuleKind.TheVariants.{Indent}
use Rattle.yaml_block.specs.declared.piece.Piece.{Piece}
use Rattle.yaml_block.specs.declared.piece.Head.{Head}
use Rattle.yaml_block.specs.declared.piece.Head.TheVariants as head
use Rattle.yaml_block.specs.declared.piece.Inline.{Inline}
use Rattle.yaml_block.specs.declared.piece.Bound.{Bound}
use Rattle.yaml_block.specs.declared.piece.Block.{Block}
use Rattle.yaml_block.specs.declared.piece.Line.TheVariants as a_line
use Rattle.yaml_block.specs.declared.fault.Refusal.{Refusal}
use Rattle.yaml_block.specs.declared.fault.BlockFault.{BlockFault}
use Rattle.yaml_block.specs.declared.fault.BlockFault.TheVariants as fault
use Rattle.yaml_block.specs.declared.node.Node.{Node}
use Rattle.yaml_block.specs.Scalars.{is_gap}
use Rattle.yaml_block.specs.Layout.{Forest, lies_in, below, inside, forest}
use Rattle.yaml_block.specs.Trees.{refusal, opened, block, ◌orElse◌, at_line, unreadable_value, block_below, value_of}
use Rattle.yaml_block.specs.Documents.{lines, and_line, trees, Refused}

-- ---- bytes

abbrev pub is_colon_at : List ℕ → ℕ → Bool
is_colon_at text at = (slice_index text at == 58) && is_gap (drop (at + 1) text)

-- a line without the CR that it may end with
abbrev pub without_return : List ℕ → List ℕ
without_return [] = []
without_return (b ∷ []) = if b == 13 then [] else b ∷ []
without_return (b ∷ c ∷ bs) = b ∷ without_return (c ∷ bs)

-- The lines of a text are this one, and those of what follows it.
abbrev pub AreLines : List ℕ → List ℕ → Option (List ℕ) → Type 0
AreLines text line None = lines text ≡ line ∷ []
AreLines text line (Some rest) = lines text ≡ line ∷ lines rest

-- ---- pieces

-- An answer, as this function sees it, is the meaning, unless it is want of memory.
abbrev pub Fails : {Y : Type 0} → BlockFault → Result Y Refusal → Type 0
Fails fault.OutOfMemory meaning = Unit {0}
Fails (fault.Refused r) meaning = meaning ≡ Err r

abbrev pub Answers : {X Y : Type 0} → (X → Y) → Result X BlockFault → Result Y Refusal → Type 0
Answers view (Ok x) meaning = meaning ≡ Ok (view x)
Answers view (Err e) meaning = Fails e meaning

abbrev pub unless : {A : Type 0} → Option Refusal → A → Result A Refusal
unless None a = Ok a
unless (Some r) a = Err r

-- the next piece in a bound, and those after it
abbrev pub next_in : Bound → List Piece → Option (Piece × List Piece)
next_in b [] = None
next_in b (p ∷ ps) = if lies_in b p then Some (p, ps) else None

-- the pieces from the first one on that lies outside
abbrev pub rest : Bound → List Piece → List Piece
rest b [] = []
rest b (p ∷ ps) = if lies_in b p then rest b ps else p ∷ ps

unfoldable pub trees_in : Bound → List Piece → Forest
trees_in b ps = inside b (forest ps)

-- what the pieces in a bound are, as a part of a block at this level after those keys, and the pieces after them
unfoldable pub read_as : {A : Type 0} → (Forest → A) → ℕ → Block → List (List ℕ) → Bound → List Piece → Result (A × List Piece) Refusal
read_as content level home keys b ps = unless (refusal level home keys (trees_in b ps)) (content (trees_in b ps), rest b ps)

unfoldable pub read_block : ℕ → ℕ → Bound → List Piece → Result (Node × List Piece) Refusal
read_block level line b ps = read_as (block line) level (opened (trees_in b ps)) [] b ps

-- the value of an entry, whose pieces follow
unfoldable pub read_value : ℕ → Piece → List Piece → Result (Node × List Piece) Refusal
read_value level p ps =
    let under = trees_in (below p) ps in
    unless (at_line p.line (unreadable_value p.head) orElse refusal (level + 1) (block_below p.head under) [] under)
    (value_of p.line p.head (block p.line under), rest (below p) ps)

abbrev pub misplaced_kind : Head → ModuleKind
misplaced_kind head.Item = Indent
misplaced_kind (head.Entry _ _) = Indent
misplaced_kind (head.Scalar _) = Indent
misplaced_kind (head.Refused kind) = kind

-- no piece may lie in the bound
unfoldable pub read_nothing : Bound → List Piece → Result (Unit {0}) Refusal
read_nothing b [] = Ok tt
read_nothing b (p ∷ ps) = if lies_in b p then Err (record { line = p.line; kind = misplaced_kind p.head }) else Ok tt

-- the head of an entry with this behind its colon
abbrev pub HasInline : Inline → Head → Type 0
HasInline value (head.Entry key other) = other ≡ value
HasInline value _ = ⊥

-- ---- documents

unfoldable pub document_tree : Forest → Result Node Refusal
document_tree f = unless (refusal 1 (opened f) [] f) (block 0 f)

abbrev pub added : ℕ → List Node → Option Refusal → Node → Result (List Node) Refused
added number nodes None node = Ok (nodes ++ node ∷ [])
added number nodes (Some r) node = Err (number, r)

-- trees, and that of the document of these pieces
abbrev pub closed : List Node → List Piece → Result (List Node) Refused
closed nodes [] = Ok nodes
closed nodes (p ∷ ps) = added (length nodes + 1) nodes (refusal 1 (opened (forest (p ∷ ps))) [] (forest (p ∷ ps))) (block 0 (forest (p ∷ ps)))

abbrev pub after_nodes : List Node → Result (List Node) Refused → Result (List Node) Refused
after_nodes nodes (Ok more) = Ok (nodes ++ more)
after_nodes nodes (Err r) = Err r

-- trees, and those of a document that begins with these pieces, and of the documents that follow
abbrev pub trees_on : List Node → List Piece → List (List Piece) → Result (List Node) Refused
trees_on nodes pieces ds = after_nodes nodes (trees (length nodes + 1) (and_line (a_line.Pieces pieces) ds))
