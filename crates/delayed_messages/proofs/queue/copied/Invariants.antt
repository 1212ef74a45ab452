use Rattle.std.proofs.Common.{◌≡◌, take}
use Rattle.delayed_messages.proofs.queue.copied.Given as goal

-- what was copied so far
abbrev pub invariant-loop-place : goal.invariant-loop-place
invariant-loop-place l = l.copy.items ≡ take l.place l.queue.items
