use Rattle.std.proofs.Common.{IsFalse}
use Rattle.disk_bench.proofs.work.number.Given as goal

-- no append has failed
abbrev pub invariant-loop-more : goal.invariant-loop-more
invariant-loop-more l = IsFalse l.log.spent
