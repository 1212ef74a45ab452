-- What a node of a tree is, one level deep.
use Rattle.std.specs.Prelude.{ℕ, List, Option, Some, None}
use Rattle.yaml_block.specs.declared.node.Node.{Node, out-Node}
use Rattle.yaml_block.specs.declared.node.NodeKind.{NodeKind, out-NodeKind}
use Rattle.yaml_block.specs.declared.node.NodeKind.TheOpen.{NodeKind-F}
use Rattle.yaml_block.specs.declared.node.NodeKind.TheOpen as open_kind
use Rattle.yaml_block.specs.declared.node.Pair.{Pair}

abbrev pub text_in : NodeKind-F NodeKind Node Pair → Option (List ℕ)
text_in (open_kind.Scalar text) = Some text
text_in _ = None

abbrev pub pairs_in : NodeKind-F NodeKind Node Pair → Option (List Pair)
pairs_in (open_kind.Mapping pairs) = Some pairs
pairs_in _ = None

abbrev pub items_in : NodeKind-F NodeKind Node Pair → Option (List Node)
items_in (open_kind.Sequence items) = Some items
items_in _ = None

-- the text of a scalar, the pairs of a mapping, the items of a sequence
abbrev pub text_of : Node → Option (List ℕ)
text_of node = text_in (out-NodeKind (out-Node node).what)

abbrev pub pairs_of : Node → Option (List Pair)
pairs_of node = pairs_in (out-NodeKind (out-Node node).what)

abbrev pub items_of : Node → Option (List Node)
items_of node = items_in (out-NodeKind (out-Node node).what)
