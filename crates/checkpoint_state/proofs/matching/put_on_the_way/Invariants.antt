use Rattle.std.proofs.Common.{◌≡◌, drop}
use Rattle.run_record.specs.StateOf.{state_of}
use Rattle.checkpoint_state.specs.Stored.{on_the_way}
use Rattle.checkpoint_state.specs.Matching.{with_letters}
use Rattle.checkpoint_state.proofs.matching.put_on_the_way.Given as goal

-- what is left leads to the same whole
abbrev pub invariant-loop-letters : goal.invariant-loop-letters
invariant-loop-letters l = with_letters (on_the_way (drop l.letters-index l.feedback)) (state_of l.machine) ≡ with_letters (on_the_way l.feedback) (state_of l.fn.machine)
