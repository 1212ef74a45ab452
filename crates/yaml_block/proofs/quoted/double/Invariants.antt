use Rattle.std.proofs.Common.{◌≡◌, length}
use Rattle.yaml_block.specs.Scalars.{double}
use Rattle.yaml_block.proofs.Scanning.{passed}
use Rattle.yaml_block.proofs.quoted.double.Given as goal

abbrev pub invariant-loop-byte : goal.invariant-loop-byte
invariant-loop-byte l = passed l.content (double l.rest) ≡ double l.text

abbrev pub decreases-loop-byte : goal.decreases-loop-byte
decreases-loop-byte l = length l.rest
