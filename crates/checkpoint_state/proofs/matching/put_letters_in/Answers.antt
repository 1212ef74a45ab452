use Rattle.std.proofs.Common.{ap, sym, ◌∙◌, ◌+◌, drop, List}
use Rattle.run_record.specs.StateOf.{state_of}
use Rattle.piece_messages.specs.declared.piece.Piece.{Piece}
use Rattle.checkpoint_state.specs.Stored.{letters_in}
use Rattle.checkpoint_state.specs.Matching.{with_letters}
use Rattle.checkpoint_state.proofs.AtCheckpoint.{one_less, letters-append}
use Rattle.checkpoint_state.proofs.matching.put_letters_in.Goals as goal

pub loop-piece-preserved : goal.loop-piece-preserved
loop-piece-preserved c =
    let rest = drop (c.loop-piece.piece-index + 1) c.args.pieces.now in
    one_less (λ (pieces : List Piece). with_letters (letters_in pieces)) c.args.pieces.now c.loop-piece.piece-index c.piece-item.result (state_of c.loop-piece.machine) (state_of c.put_letters.new.machine) _ c.loop-piece-test.true c.piece-item.is
    (letters-append c.piece-item.result.letters (letters_in rest) (state_of c.loop-piece.machine) ∙ ap (with_letters (letters_in rest)) (ap (λ letters. with_letters letters (state_of c.loop-piece.machine)) (sym c.as_slice.ensures) ∙ sym c.in_ok-put_letters.ensures)) c.loop-piece.invariant
