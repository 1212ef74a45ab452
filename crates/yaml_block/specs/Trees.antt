-- The first refusal of a block (YAML 1.2, section 8.2), and its tree.
use Rattle.std.specs.Prelude.{ℕ, ◌+◌, Bool, true, false, ◌&&◌, if◌then◌else◌, nat_lt, nat_eq, List, [], ◌∷◌, ◌++◌, Option, Some, None}
use Rattle.std.specs.List.{list_any}
use Rattle.std.specs.Str.{bytes_eq}
use Rattle.proto_wire.specs.declared.module_kind.ModuleKind.{ModuleKind}
use Rattle.proto_wire.specs.declared.module_kind.ModuleKind.TheVariants.{Indent, Depth, DuplicateKey}
use Rattle.yaml_block.specs.declared.piece.Head.{Head}
use Rattle.yaml_block.specs.declared.piece.Head.TheVariants as head
use Rattle.yaml_block.specs.declared.piece.Inline.TheVariants as inline
use Rattle.yaml_block.specs.declared.piece.Piece.{Piece}
use Rattle.yaml_block.specs.declared.piece.Block.{Block}
use Rattle.yaml_block.specs.declared.piece.BlockKind.{BlockKind}
use Rattle.yaml_block.specs.declared.piece.BlockKind.TheVariants.{Sequence, Mapping, Scalar, Closed}
use Rattle.yaml_block.specs.declared.fault.Refusal.{Refusal}
use Rattle.yaml_block.specs.declared.node.Node.{Node, roll-Node}
use Rattle.yaml_block.specs.declared.node.NodeKind.TheVariants as kind
use Rattle.yaml_block.specs.declared.node.Pair.{Pair, roll-Pair}
use Rattle.yaml_block.specs.Layout.{Forest, none, grown}

-- ---- blocks

-- A block has the kind and the column of its first piece.
abbrev pub block_kind : Head → BlockKind
block_kind head.Item = Sequence
block_kind (head.Entry _ _) = Mapping
block_kind (head.Scalar _) = Scalar
block_kind (head.Refused _) = Scalar

abbrev pub block_of : Piece → Block
block_of p = record { column = p.column; kind = block_kind p.head }

-- where no piece may stand
abbrev pub no_block : Block
no_block = record { column = 0; kind = Closed }

abbrev pub opened : Forest → Block
opened none = no_block
opened (grown p under after) = block_of p

-- Below an item, and below an entry with nothing behind its colon, a block may stand.
abbrev pub block_below : Head → Forest → Block
block_below head.Item under = opened under
block_below (head.Entry _ inline.Nothing) under = opened under
block_below _ under = no_block

-- A scalar takes one line: behind it its block is closed.
abbrev pub goes_on : Block → Head → Block
goes_on home (head.Scalar _) = no_block
goes_on home _ = home

abbrev pub is_of_kind : BlockKind → Head → Bool
is_of_kind Sequence head.Item = true
is_of_kind Mapping (head.Entry _ _) = true
is_of_kind Scalar (head.Scalar _) = true
is_of_kind _ _ = false

-- ---- what is wrong with a piece in its block, from left to right

infixr 5 ◌orElse◌
abbrev pub ◌orElse◌ : {A : Type 0} → Option A → Option A → Option A
(Some a) orElse other = Some a
None orElse other = other

-- what stands there
abbrev pub unreadable : Head → Option ModuleKind
unreadable (head.Refused kind) = Some kind
unreadable _ = None

abbrev pub most_levels : ℕ
most_levels = 16

-- where it stands: it has the block's kind and column, and there are not too many blocks in one another
abbrev pub misplaced : ℕ → Block → Piece → Option ModuleKind
misplaced level home p =
    if is_of_kind home.kind p.head && nat_eq home.column p.column then (if nat_lt most_levels level then Some Depth else None) else Some Indent

abbrev pub misfit : ℕ → Block → Piece → Option ModuleKind
misfit level home p = unreadable p.head orElse misplaced level home p

-- its key, after those keys of the mapping (section 3.2.1.3)
abbrev pub repeated : List (List ℕ) → Head → Option ModuleKind
repeated keys (head.Entry key value) = if list_any (bytes_eq key) keys then Some DuplicateKey else None
repeated keys _ = None

-- the value on its line
abbrev pub unreadable_value : Head → Option ModuleKind
unreadable_value (head.Entry key (inline.Refused kind)) = Some kind
unreadable_value _ = None

abbrev pub at_line : ℕ → Option ModuleKind → Option Refusal
at_line line None = None
at_line line (Some kind) = Some (record { line = line; kind = kind })

abbrev pub wrong : ℕ → Block → List (List ℕ) → Piece → Option Refusal
wrong level home keys p = at_line p.line (misfit level home p orElse (repeated keys p.head orElse unreadable_value p.head))

-- ---- the first of all refusals

abbrev pub and_key : List (List ℕ) → Head → List (List ℕ)
and_key keys (head.Entry key value) = keys ++ key ∷ []
and_key keys _ = keys

-- in a block at this level, after pieces with those keys: of a piece, then of what lies below it, then of those after it
abbrev pub refusal : ℕ → Block → List (List ℕ) → Forest → Option Refusal
refusal level home keys none = None
refusal level home keys (grown p under after) =
    wrong level home keys p
    orElse (refusal (level + 1) (block_below p.head under) [] under
    orElse refusal level (goes_on home p.head) (and_key keys p.head) after)

-- ---- the tree, where nothing is refused

abbrev pub scalar : ℕ → List ℕ → Node
scalar line text = roll-Node (record { line = line; what = kind.Scalar text })

abbrev pub sequence : ℕ → List Node → Node
sequence line items = roll-Node (record { line = line; what = kind.Sequence items })

abbrev pub mapping : ℕ → List Pair → Node
mapping line pairs = roll-Node (record { line = line; what = kind.Mapping pairs })

abbrev pub pair : List ℕ → ℕ → Node → Pair
pair key line value = roll-Pair (record { key = key; line = line; value = value })

-- The value of an entry is the scalar on its line, or what lies below.
abbrev pub value_of : ℕ → Head → Node → Node
value_of line (head.Entry key (inline.Scalar text)) under = scalar line text
value_of line _ under = under

abbrev pub key_of : Head → List ℕ
key_of (head.Entry key value) = key
key_of _ = []

abbrev pub entry : ℕ → Head → Node → Pair
entry line head under = pair (key_of head) line (value_of line head under)

-- a block by its first piece, what lies below that, and the rest of its items or pairs
abbrev pub by_head : ℕ → Head → Node → List Node → List Pair → Node
by_head line head.Item under items pairs = sequence line (under ∷ items)
by_head line (head.Entry key value) under items pairs = mapping line (entry line (head.Entry key value) under ∷ pairs)
by_head line (head.Scalar text) under items pairs = scalar line text
by_head line (head.Refused _) under items pairs = under

abbrev mutual
  -- the block of a forest, or the empty scalar on this line
  pub block : ℕ → Forest → Node
  block line none = scalar line []
  block line (grown p under after) = by_head p.line p.head (block p.line under) (items after) (pairs after)

  pub items : Forest → List Node
  items none = []
  items (grown p under after) = block p.line under ∷ items after

  pub pairs : Forest → List Pair
  pairs none = []
  pairs (grown p under after) = entry p.line p.head (block p.line under) ∷ pairs after
