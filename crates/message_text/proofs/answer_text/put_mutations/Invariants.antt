use Rattle.std.proofs.Common.{◌≡◌, ◌++◌, take}
use Rattle.message_text.specs.Lines.{mutation_lines}
use Rattle.message_text.proofs.answer_text.put_mutations.Given as goal

-- the lines so far are added
abbrev pub invariant-loop-mutation : goal.invariant-loop-mutation
invariant-loop-mutation l = l.into ≡ l.initial.into ++ mutation_lines (take l.mutation-index l.mutations)
