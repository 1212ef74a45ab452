use Rattle.std.proofs.Common.{◌≡◌, take, length}
use Rattle.keyed_queues.proofs.exact.same_all.Given as goal

-- the first so many are the same
abbrev pub invariant-loop-place : goal.invariant-loop-place
invariant-loop-place g l = (take l.place l.one ≡ take l.place l.other) × (length l.one ≡ length l.other)
