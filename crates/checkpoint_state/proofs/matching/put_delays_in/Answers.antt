use Rattle.std.proofs.Common.{ap, sym, ◌∙◌, ◌+◌, drop, List}
use Rattle.run_record.specs.StateOf.{state_of}
use Rattle.piece_messages.specs.declared.piece.Piece.{Piece}
use Rattle.checkpoint_state.specs.Stored.{delays_in}
use Rattle.checkpoint_state.specs.Matching.{with_delays}
use Rattle.checkpoint_state.proofs.AtCheckpoint.{one_less, delays-append}
use Rattle.checkpoint_state.proofs.matching.put_delays_in.Goals as goal

pub loop-piece-preserved : goal.loop-piece-preserved
loop-piece-preserved c =
    let rest = drop (c.loop-piece.piece-index + 1) c.args.pieces.now in
    one_less (λ (pieces : List Piece). with_delays (delays_in pieces)) c.args.pieces.now c.loop-piece.piece-index c.piece-item.result (state_of c.loop-piece.machine) (state_of c.put_delays.new.machine) _ c.loop-piece-test.true c.piece-item.is
    (delays-append c.piece-item.result.delays (delays_in rest) (state_of c.loop-piece.machine) ∙ ap (with_delays (delays_in rest)) (ap (λ delays. with_delays delays (state_of c.loop-piece.machine)) (sym c.as_slice.ensures) ∙ sym c.in_ok-put_delays.ensures)) c.loop-piece.invariant
