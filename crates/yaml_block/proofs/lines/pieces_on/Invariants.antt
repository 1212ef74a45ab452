use Rattle.std.proofs.Common.{◌≡◌, ◌≤◌, ◌+◌, ◌++◌, length}
use Rattle.std.specs.Str.{IsUtf8}
use Rattle.yaml_block.specs.Lines.{pieces_on}
use Rattle.yaml_block.proofs.lines.pieces_on.Given as goal

abbrev pub invariant-loop-first : goal.invariant-loop-first
invariant-loop-first l = record {
  bound : l.column + length l.rest ≤ length l.fn.text;
  utf8 : IsUtf8 l.rest;
  so_far : l.pieces ++ pieces_on l.line l.column l.rest ≡ pieces_on l.line 0 l.fn.text;
}

abbrev pub decreases-loop-first : goal.decreases-loop-first
decreases-loop-first l = length l.rest
