use Rattle.std.proofs.Common.{◌≡◌, ◌++◌, take}
use Rattle.message_text.specs.Lines.{missing_lines}
use Rattle.message_text.proofs.answer_text.put_missing_values.Given as goal

-- the lines so far are added
abbrev pub invariant-loop-value : goal.invariant-loop-value
invariant-loop-value l = l.into ≡ l.initial.into ++ missing_lines (take l.value-index l.values)
