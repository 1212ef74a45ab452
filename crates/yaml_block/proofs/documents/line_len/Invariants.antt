use Rattle.std.proofs.Common.{◌≡◌, ◌≤◌, ◌-◌, ◌==◌, false, length, take}
use Rattle.std.specs.List.{list_any}
use Rattle.yaml_block.proofs.documents.line_len.Given as goal

abbrev pub invariant-loop-len : goal.invariant-loop-len
invariant-loop-len l = record { bound : l.len ≤ length l.text; before : list_any (λ b. b == 10) (take l.len l.text) ≡ false }

abbrev pub decreases-loop-len : goal.decreases-loop-len
decreases-loop-len l = length l.text - l.len
