use Rattle.std.proofs.Common.{IsFalse}
use Rattle.folder_bench.proofs.writing.make.Given as goal

-- no call has failed
abbrev pub invariant-loop : goal.invariant-loop
invariant-loop l = IsFalse l.store.spent
