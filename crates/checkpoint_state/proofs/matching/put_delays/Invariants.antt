use Rattle.std.proofs.Common.{◌≡◌, drop}
use Rattle.run_record.specs.StateOf.{state_of}
use Rattle.checkpoint_state.specs.Matching.{with_delays}
use Rattle.checkpoint_state.proofs.matching.put_delays.Given as goal

-- what is left leads to the same whole
abbrev pub invariant-loop-delay : goal.invariant-loop-delay
invariant-loop-delay l = with_delays (drop l.delay-index l.delays) (state_of l.machine) ≡ with_delays l.delays (state_of l.fn.machine)
