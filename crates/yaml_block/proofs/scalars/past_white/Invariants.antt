use Rattle.std.proofs.Common.{◌≡◌, length}
use Rattle.yaml_block.specs.Scalars.{past_white}
use Rattle.yaml_block.proofs.scalars.past_white.Given as goal

abbrev pub invariant-loop-rest : goal.invariant-loop-rest
invariant-loop-rest l = past_white l.rest ≡ past_white l.text

abbrev pub decreases-loop-rest : goal.decreases-loop-rest
decreases-loop-rest l = length l.rest
