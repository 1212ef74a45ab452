use Rattle.std.proofs.Common.{◌-◌, ◌^◌, length}
use Rattle.std.specs.Io.KnownBytes.{Keeps}
use Rattle.sf_outside.specs.Log.{known}
use Rattle.sf_outside.proofs.split_log.next_record.Given as goal

-- no byte was taken so far
abbrev pub invariant-loop-record : goal.invariant-loop-record
invariant-loop-record g l = Keeps (known l.initial.unread (g.F.Read.remaining l.initial.file)) (known l.unread (g.F.Read.remaining l.file))

abbrev pub decreases-loop-record : goal.decreases-loop-record
decreases-loop-record g l = 2 ^ 64 - length l.unread
