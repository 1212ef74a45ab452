use Rattle.std.proofs.Common.{◌≡◌, ◌≤◌, ◌++◌, length}
use Rattle.partition_core.proofs.restoring.waiting_again.Given as goal

-- what was put back so far, and what is left, for which there is room
abbrev pub invariant-loop-delay : goal.invariant-loop-delay
invariant-loop-delay l = record {
  so_far : l.delays.delays ++ l.delay-iterator.rest.items ≡ l.fn.list;
  room : length l.delay-iterator.rest.items ≤ l.delays.spare;
}
