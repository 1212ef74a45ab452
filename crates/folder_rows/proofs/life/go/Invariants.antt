use Rattle.std.proofs.Common.{IsFalse}
use Rattle.folder_rows.proofs.life.go.Given as goal

-- no call has failed
abbrev pub invariant-loop-checkpoint : goal.invariant-loop-checkpoint
invariant-loop-checkpoint l = IsFalse l.store.spent
