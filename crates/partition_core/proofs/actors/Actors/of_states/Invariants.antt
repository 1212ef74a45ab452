use Rattle.std.proofs.Common.{length}
use Rattle.partition_core.proofs.PutBack.{Stands}
use Rattle.partition_core.proofs.actors.Actors.of_states.Given as goal

-- what was put back so far, from the last on, and what is left
abbrev pub invariant-loop-state : goal.invariant-loop-state
invariant-loop-state l = Stands l.actors l.rest.items l.fn.states

abbrev pub decreases-loop-state : goal.decreases-loop-state
decreases-loop-state l = length l.rest.items
