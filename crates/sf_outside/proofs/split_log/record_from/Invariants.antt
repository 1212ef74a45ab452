use Rattle.std.proofs.Common.{◌-◌, ◌+◌, ◌≤◌, Option}
use Rattle.sf_outside.specs.declared.ingress.IngressRecord.{IngressRecord}
use Rattle.sf_outside.specs.Log.{known, FindsRecord}
use Rattle.sf_outside.proofs.split_log.record_from.Given as goal

-- what is found from here is found from the start
abbrev pub invariant-loop-found : goal.invariant-loop-found
invariant-loop-found g l = (l.next ≤ l.offset) × ((found : Option IngressRecord)
    → FindsRecord (known l.unread (g.F.Read.remaining l.file)) (l.offset - l.next) found
    → FindsRecord (known l.initial.unread (g.F.Read.remaining l.initial.file)) (l.offset - l.initial.next) found)

abbrev pub decreases-loop-found : goal.decreases-loop-found
decreases-loop-found g l = l.offset + 1 - l.next
