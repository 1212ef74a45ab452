use Rattle.std.proofs.Common.{rules, ◌≡◌, [], ◌∷◌, ◌++◌}
use Rattle.run_record.specs.StateOf.{state_of}
use Rattle.checkpoint_state.proofs.AtCheckpoint.{fewer_left}
use Rattle.checkpoint_state.proofs.matching.put_states.Goals as goal

pub loop-state-preserved : goal.loop-state-preserved
loop-state-preserved c =
    let split : c.loop-state.rest.now ≡ c.in-Some.others.now ++ c.in-Some.state.now ∷ [] = search rules in
    fewer_left c.loop-state.rest.now c.in-Some.others.now (c.in-Some.state.now ∷ []) (state_of c.loop-state.machine) (state_of c.put_state.new.machine) _ split c.in_ok-put_state.ensures c.loop-state.invariant
