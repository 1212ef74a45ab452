use Rattle.std.proofs.Common.{◌≡◌, ◌++◌, map}
use Rattle.delayed_messages.specs.Queue.{delay_of}
use Rattle.delayed_messages.proofs.queue.delays_of.Given as goal

-- what was moved so far, and what is left
abbrev pub invariant-loop-kept : goal.invariant-loop-kept
invariant-loop-kept l = l.list ++ map delay_of l.kept-iterator.rest.items ≡ map delay_of l.fn.numbered.items
