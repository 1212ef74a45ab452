use Rattle.std.proofs.Common.{◌≡◌, map, take}
use Rattle.partition_core.specs.Batches.{sender_of}
use Rattle.partition_core.proofs.calls.senders_of.Given as goal

-- the senders of the letters so far
abbrev pub invariant-loop-letter : goal.invariant-loop-letter
invariant-loop-letter l = l.picks ≡ map sender_of (take l.letter-index l.letters)
