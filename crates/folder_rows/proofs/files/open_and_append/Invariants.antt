use Rattle.std.proofs.Common.{IsFalse}
use Rattle.folder_rows.proofs.files.open_and_append.Given as goal

-- no append has failed
abbrev pub invariant-loop-body : goal.invariant-loop-body
invariant-loop-body l = IsFalse l.log.spent
