-- Which piece lies below which, by indentation alone (YAML 1.2, sections 6.1 and 8.2).
use Rattle.std.specs.Prelude.{◌≡◌, ◌+◌, Bool, true, false, ◌&&◌, if◌then◌else◌, nat_le, List, [], ◌∷◌, ◌++◌}
use Rattle.yaml_block.specs.declared.piece.Head.{Head}
use Rattle.yaml_block.specs.declared.piece.Head.TheVariants as head
use Rattle.yaml_block.specs.declared.piece.Piece.{Piece}
use Rattle.yaml_block.specs.declared.piece.Bound.{Bound}

abbrev pub is_item_head : Head → Bool
is_item_head head.Item = true
is_item_head (head.Entry _ _) = false
is_item_head (head.Scalar _) = false
is_item_head (head.Refused _) = false

abbrev pub is_entry_head : Head → Bool
is_entry_head head.Item = false
is_entry_head (head.Entry _ _) = true
is_entry_head (head.Scalar _) = false
is_entry_head (head.Refused _) = false

-- What is indented further than a piece lies below it. A sequence may stand at its key's own indentation, so below a key
-- a `-` counts as one column further right.
abbrev pub below : Piece → Bound
below p = record { least = p.column + 1; below_key = is_entry_head p.head }

abbrev pub lies_in : Bound → Piece → Bool
lies_in b p = nat_le b.least (if is_item_head p.head && b.below_key then p.column + 1 else p.column)

-- The pieces of a block in the order of its lines: one, then what lies below it, then those after it in the block.
pub data Forest : Type 0 where
  none : Forest
  grown : Piece → Forest → Forest → Forest

-- its pieces, in the order of the text
abbrev pub pieces_of : Forest → List Piece
pieces_of none = []
pieces_of (grown p under after) = p ∷ (pieces_of under ++ pieces_of after)

-- ---- as a relation

abbrev pub AllIn : Bound → Forest → Type 0
AllIn b none = Unit {0}
AllIn b (grown p under after) = (lies_in b p ≡ true) × AllIn b after

abbrev pub BeginsOutside : Bound → Forest → Type 0
BeginsOutside b none = Unit {0}
BeginsOutside b (grown p under after) = lies_in b p ≡ false

-- Below each piece lies all that follows it up to the first piece outside its bound.
abbrev pub IsLaid : Forest → Type 0
IsLaid none = Unit {0}
IsLaid (grown p under after) = AllIn (below p) under × BeginsOutside (below p) after × IsLaid under × IsLaid after

-- ---- as a function: one list of pieces has one layout, and this is it

-- the first pieces, as long as they lie in the bound, and those from the first other one on
abbrev pub inside : Bound → Forest → Forest
inside b none = none
inside b (grown p under after) = if lies_in b p then grown p under (inside b after) else none

abbrev pub outside : Bound → Forest → Forest
outside b none = none
outside b (grown p under after) = if lies_in b p then outside b after else grown p under after

abbrev pub forest : List Piece → Forest
forest [] = none
forest (p ∷ ps) = grown p (inside (below p) (forest ps)) (outside (below p) (forest ps))
