use Rattle.std.proofs.Common.{IsFalse}
use Rattle.disk_bench.proofs.work.append.Given as goal

-- no append has failed
abbrev pub invariant-loop : goal.invariant-loop
invariant-loop l = IsFalse l.log.spent
