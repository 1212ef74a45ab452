use Rattle.std.proofs.Common.{◌≡◌, length}
use Rattle.yaml_block.specs.Scalars.{single}
use Rattle.yaml_block.proofs.Scanning.{passed}
use Rattle.yaml_block.proofs.quoted.single.Given as goal

abbrev pub invariant-loop-rest : goal.invariant-loop-rest
invariant-loop-rest l = passed l.content (single l.rest) ≡ single l.text

abbrev pub decreases-loop-rest : goal.decreases-loop-rest
decreases-loop-rest l = length l.rest
