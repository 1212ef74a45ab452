use Rattle.std.proofs.Common.{◌≡◌, ◌≤◌, ◌<◌, ◌+◌, length}
use Rattle.std.specs.Str.{IsUtf8}
use Rattle.yaml_block.specs.Documents.{trees, documents, lines}
use Rattle.yaml_block.specs.Steps.{trees_on}
use Rattle.yaml_block.proofs.documents.trees.Given as goal

abbrev pub invariant-loop-pieces : goal.invariant-loop-pieces
invariant-loop-pieces l = record {
  bound : l.line + length l.rest ≤ length l.text + 1;
  count : length l.nodes < l.line;
  utf8 : IsUtf8 l.rest;
  so_far : trees_on l.nodes l.pieces.items (documents l.line (lines l.rest)) ≡ trees 1 (documents 1 (lines l.text));
}

abbrev pub decreases-loop-pieces : goal.decreases-loop-pieces
decreases-loop-pieces l = length l.rest
