use Rattle.std.proofs.Common.{IsFalse}
use Rattle.folder_rows.proofs.life.put_all.Given as goal

-- no call has failed
abbrev pub invariant-loop-part : goal.invariant-loop-part
invariant-loop-part l = IsFalse l.store.spent
