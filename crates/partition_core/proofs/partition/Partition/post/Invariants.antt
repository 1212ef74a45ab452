use Rattle.std.proofs.Common.{◌≡◌}
use Rattle.partition_core.specs.Work.{with_posted}
use Rattle.partition_core.specs.Kept.{work_of}
use Rattle.partition_core.proofs.partition.Partition.post.Given as goal

-- with the letters that are left it is what it is to be
abbrev pub invariant-loop-letter : goal.invariant-loop-letter
invariant-loop-letter l = with_posted l.letter-iterator.rest.items (work_of l.self) ≡ with_posted l.fn.letters (work_of l.initial.self)
