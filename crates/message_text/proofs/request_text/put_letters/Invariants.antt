use Rattle.std.proofs.Common.{◌≡◌, ◌++◌, take}
use Rattle.message_text.specs.Lines.{letter_lines}
use Rattle.message_text.proofs.request_text.put_letters.Given as goal

-- the lines so far are added
abbrev pub invariant-loop-letter : goal.invariant-loop-letter
invariant-loop-letter l = l.into ≡ l.initial.into ++ letter_lines (take l.letter-index l.letters)
