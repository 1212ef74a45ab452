use Rattle.std.proofs.Common.{length}
use Rattle.run_record.specs.StateOf.{state_of}
use Rattle.checkpoint_state.specs.Matching.{with_states}
use Rattle.checkpoint_state.proofs.AtCheckpoint.{Left}
use Rattle.checkpoint_state.proofs.matching.put_states.Given as goal

-- what is left leads to the same whole
abbrev pub invariant-loop-state : goal.invariant-loop-state
invariant-loop-state l = Left l.rest (state_of l.machine) (with_states l.states (state_of l.fn.machine))

abbrev pub decreases-loop-state : goal.decreases-loop-state
decreases-loop-state l = length l.rest
