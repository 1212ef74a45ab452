use Rattle.std.proofs.Common.{length}
use Rattle.run_record.specs.StateOf.{state_of}
use Rattle.checkpoint_state.specs.Stored.{states_in}
use Rattle.checkpoint_state.specs.Matching.{with_states}
use Rattle.checkpoint_state.proofs.AtCheckpoint.{Left}
use Rattle.checkpoint_state.proofs.matching.put_states_in.Given as goal

-- what is left leads to the same whole
abbrev pub invariant-loop-piece : goal.invariant-loop-piece
invariant-loop-piece l = Left (states_in l.rest) (state_of l.machine) (with_states (states_in l.pieces) (state_of l.fn.machine))

abbrev pub decreases-loop-piece : goal.decreases-loop-piece
decreases-loop-piece l = length l.rest
