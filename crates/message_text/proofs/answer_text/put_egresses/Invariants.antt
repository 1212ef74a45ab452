use Rattle.std.proofs.Common.{◌≡◌, ◌++◌, take}
use Rattle.message_text.specs.Lines.{egress_lines}
use Rattle.message_text.proofs.answer_text.put_egresses.Given as goal

-- the lines so far are added
abbrev pub invariant-loop-message : goal.invariant-loop-message
invariant-loop-message l = l.into ≡ l.initial.into ++ egress_lines (take l.message-index l.messages)
