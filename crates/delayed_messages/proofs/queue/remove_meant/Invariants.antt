use Rattle.std.proofs.Common.{◌≡◌, ◌≤◌, ◌-◌, ◌++◌, filter, take, drop, length}
use Rattle.std.specs.VecDeque.{deque_len, deque_capacity}
use Rattle.typed_values.specs.Delays.{is_meant}
use Rattle.delayed_messages.proofs.Orders.{left}
use Rattle.delayed_messages.proofs.queue.remove_meant.Given as goal

-- what is kept in front, and what will be kept of the others, is what is kept of all
abbrev pub invariant-loop-at : goal.invariant-loop-at
invariant-loop-at l =
    (filter (left (is_meant l.fn.sender l.fn.token)) l.fn.queue.items ≡ take l.at l.queue.items ++ filter (left (is_meant l.fn.sender l.fn.token)) (drop l.at l.queue.items))
    × (l.at ≤ length l.queue.items) × (deque_capacity l.queue ≡ deque_capacity l.fn.queue)

abbrev pub decreases-loop-at : goal.decreases-loop-at
decreases-loop-at l = deque_len l.queue - l.at
