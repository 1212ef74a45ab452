use Rattle.std.proofs.Common.{◌≡◌, drop}
use Rattle.run_record.specs.StateOf.{state_of}
use Rattle.checkpoint_state.specs.Matching.{with_letters}
use Rattle.checkpoint_state.proofs.matching.put_letters.Given as goal

-- what is left leads to the same whole
abbrev pub invariant-loop-letter : goal.invariant-loop-letter
invariant-loop-letter l = with_letters (drop l.letter-index l.letters) (state_of l.machine) ≡ with_letters l.letters (state_of l.fn.machine)
