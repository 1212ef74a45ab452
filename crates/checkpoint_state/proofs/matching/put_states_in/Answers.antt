use Rattle.std.proofs.Common.{rules, ◌≡◌, ◌∙◌, ap, [], ◌∷◌, ◌++◌}
use Rattle.run_record.specs.StateOf.{state_of}
use Rattle.checkpoint_state.specs.Stored.{states_in}
use Rattle.checkpoint_state.specs.Matching.{with_states}
use Rattle.checkpoint_state.proofs.AtCheckpoint.{fewer_left, states_of_last}
use Rattle.checkpoint_state.proofs.matching.put_states_in.Goals as goal

pub loop-piece-preserved : goal.loop-piece-preserved
loop-piece-preserved c =
    let split : c.loop-piece.rest.now ≡ c.in-Some.others.now ++ c.in-Some.piece.now ∷ [] = search rules in
    fewer_left (states_in c.loop-piece.rest.now) (states_in c.in-Some.others.now) c.in-Some.piece.now.states (state_of c.loop-piece.machine) (state_of c.put_states.new.machine) _
    (ap states_in split ∙ states_of_last c.in-Some.others.now c.in-Some.piece.now)
    (c.in_ok-put_states.ensures ∙ ap (λ states. with_states states (state_of c.loop-piece.machine)) c.as_slice.ensures) c.loop-piece.invariant
