use Rattle.std.proofs.Common.{◌≡◌, ◌≤◌, ◌-◌, length, take, drop}
use Rattle.yaml_block.specs.Scalars.{cut_at_colon}
use Rattle.yaml_block.proofs.Scanning.{passed}
use Rattle.yaml_block.proofs.scalars.colon_in.Given as goal

abbrev pub invariant-loop-at : goal.invariant-loop-at
invariant-loop-at l = record { bound : l.at ≤ length l.text; so_far : passed (take l.at l.text) (cut_at_colon (drop l.at l.text)) ≡ cut_at_colon l.text }

abbrev pub decreases-loop-at : goal.decreases-loop-at
decreases-loop-at l = length l.text - l.at
