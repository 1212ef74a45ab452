use Rattle.std.proofs.Common.{◌≡◌, take, length}
use Rattle.keyed_queues.proofs.queue.Queue.same.Given as goal

-- the first so many are the same
abbrev pub invariant-loop-place : goal.invariant-loop-place
invariant-loop-place g l = (take l.place l.self-inside.items.items ≡ take l.place l.other-inside.items.items) × (length l.self-inside.items.items ≡ length l.other-inside.items.items)
