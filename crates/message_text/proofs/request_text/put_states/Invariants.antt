use Rattle.std.proofs.Common.{◌≡◌, ◌++◌, take}
use Rattle.message_text.specs.Lines.{state_lines}
use Rattle.message_text.proofs.request_text.put_states.Given as goal

-- the lines so far are added
abbrev pub invariant-loop-state : goal.invariant-loop-state
invariant-loop-state l = l.into ≡ l.initial.into ++ state_lines (take l.state-index l.states)
