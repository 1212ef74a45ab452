use Rattle.std.proofs.Common.{◌≡◌, ◌++◌, take, map}
use Rattle.run_record.specs.Egress.{egress_text}
use Rattle.invocation.specs.Effects.{egress_record}
use Rattle.run_record.proofs.egress.put_answer_text.Given as goal

-- the lines so far are added
abbrev pub invariant-loop-message : goal.invariant-loop-message
invariant-loop-message l = l.into ≡ l.initial.into ++ egress_text (map (egress_record l.sender) (take l.message-index l.messages))
