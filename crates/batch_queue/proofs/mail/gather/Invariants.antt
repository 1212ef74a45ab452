use Rattle.std.proofs.Common.{◌≡◌, ◌++◌, map}
use Rattle.batch_queue.proofs.Gathering.{part}
use Rattle.batch_queue.proofs.mail.gather.Given as goal

-- what was copied so far, and what is left
abbrev pub invariant-loop-address : goal.invariant-loop-address
invariant-loop-address l = l.all.items ++ map part l.address-iterator ≡ map part l.boxes.entries
