use Rattle.std.proofs.Common.{◌≡◌, ◌++◌}
use Rattle.checkpoint_state.specs.Stored.{states_in, delays_in, letters_in}
use Rattle.checkpoint_drive.proofs.begin.gather.Given as goal

-- what is gathered so far, and what is left
abbrev pub invariant-loop-piece : goal.invariant-loop-piece
invariant-loop-piece l = record {
  letters : l.letters.items ++ letters_in l.piece-iterator.rest.items ≡ letters_in l.fn.pieces;
  states : l.states.items ++ states_in l.piece-iterator.rest.items ≡ states_in l.fn.pieces;
  delays : l.delays.items ++ delays_in l.piece-iterator.rest.items ≡ delays_in l.fn.pieces;
}
