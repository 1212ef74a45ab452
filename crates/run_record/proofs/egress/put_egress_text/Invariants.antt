use Rattle.std.proofs.Common.{◌≡◌, ◌++◌, take}
use Rattle.run_record.specs.Egress.{egress_text}
use Rattle.run_record.proofs.egress.put_egress_text.Given as goal

-- the lines so far are added
abbrev pub invariant-loop-record : goal.invariant-loop-record
invariant-loop-record l = l.into ≡ l.initial.into ++ egress_text (take l.record-index l.records)
