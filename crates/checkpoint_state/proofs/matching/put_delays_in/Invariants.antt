use Rattle.std.proofs.Common.{◌≡◌, drop}
use Rattle.run_record.specs.StateOf.{state_of}
use Rattle.checkpoint_state.specs.Stored.{delays_in}
use Rattle.checkpoint_state.specs.Matching.{with_delays}
use Rattle.checkpoint_state.proofs.matching.put_delays_in.Given as goal

-- what is left leads to the same whole
abbrev pub invariant-loop-piece : goal.invariant-loop-piece
invariant-loop-piece l = with_delays (delays_in (drop l.piece-index l.pieces)) (state_of l.machine) ≡ with_delays (delays_in l.pieces) (state_of l.fn.machine)
