use Rattle.std.proofs.Common.{subst}
use Rattle.partition_core.proofs.PutBack.{Stands, stand_next}
use Rattle.partition_core.proofs.actors.Actors.of_states.Goals as goal

pub loop-state-preserved : goal.loop-state-preserved
loop-state-preserved c =
    stand_next c.loop-state.actors c.put.new.self c.in-Some.state c.pop.new.self.items c.args.states
    (subst (λ rest. Stands c.loop-state.actors rest c.args.states) c.in-Some.ensures.items c.loop-state.invariant) c.in_ok-put.ensures
