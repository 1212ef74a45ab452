use Rattle.std.proofs.Common.{◌≡◌, ◌<◌, ℕ, get_or}
use Rattle.run_record.proofs.matching.same_counts.Given as goal

-- the splits so far have the same count
abbrev pub invariant-loop-split : goal.invariant-loop-split
invariant-loop-split l = (split : ℕ) → split < l.split → get_or l.one split 0 ≡ get_or l.other split 0
