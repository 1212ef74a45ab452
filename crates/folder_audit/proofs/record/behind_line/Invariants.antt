use Rattle.std.proofs.Common.{◌≡◌, length}
use Rattle.folder_audit.specs.Stored.{behind_line}
use Rattle.folder_audit.proofs.record.behind_line.Given as goal

-- no line ended so far
abbrev pub invariant-loop-byte : goal.invariant-loop-byte
invariant-loop-byte l = behind_line l.rest ≡ behind_line l.text

abbrev pub decreases-loop-byte : goal.decreases-loop-byte
decreases-loop-byte l = length l.rest
