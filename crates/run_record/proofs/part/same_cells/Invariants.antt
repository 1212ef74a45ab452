use Rattle.std.proofs.Common.{◌≡◌, take, length}
use Rattle.run_record.proofs.part.same_cells.Given as goal

-- the first so many are the same
abbrev pub invariant-loop-place : goal.invariant-loop-place
invariant-loop-place l = (take l.place l.one ≡ take l.place l.other) × (length l.one ≡ length l.other)
