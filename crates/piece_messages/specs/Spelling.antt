-- The canonical spellings, and the values that bytes spell.
use Rattle.std.specs.Prelude.{ℕ, List, Result}
use Rattle.proto_wire.specs.declared.fault.WireFault.{WireFault}
use Rattle.proto_wire.specs.Message.{spelling, value_of}
use Rattle.folder_messages.specs.Parts.{whole_value}
use Rattle.piece_messages.specs.declared.cell_state.CellState.{CellState}
use Rattle.piece_messages.specs.declared.address_state.AddressState.{AddressState}
use Rattle.piece_messages.specs.declared.piece.Piece.{Piece}
use Rattle.piece_messages.specs.declared.feedback.Feedback.{Feedback}
use Rattle.piece_messages.specs.declared.commit.Commit.{Commit}
use Rattle.piece_messages.specs.States.{empty_cell, cell_rows, empty_state, state_rows, state_read, state_of}
use Rattle.piece_messages.specs.States.{empty_piece, piece_rows, piece_read, piece_of, empty_feedback, feedback_rows, feedback_read, feedback_of}
use Rattle.piece_messages.specs.States.{empty_commit, commit_rows, commit_read, commit_of}

unfoldable pub cell_spelling : CellState → List ℕ
cell_spelling it = spelling cell_rows it

unfoldable pub cell_value : List ℕ → Result CellState WireFault
cell_value bytes = value_of cell_rows empty_cell bytes

unfoldable pub state_spelling : AddressState → List ℕ
state_spelling it = spelling state_rows (state_read it)

unfoldable pub state_value : List ℕ → Result AddressState WireFault
state_value bytes = whole_value state_rows empty_state state_of bytes

unfoldable pub piece_spelling : Piece → List ℕ
piece_spelling it = spelling piece_rows (piece_read it)

unfoldable pub piece_value : List ℕ → Result Piece WireFault
piece_value bytes = whole_value piece_rows empty_piece piece_of bytes

unfoldable pub feedback_spelling : Feedback → List ℕ
feedback_spelling it = spelling feedback_rows (feedback_read it)

unfoldable pub feedback_value : List ℕ → Result Feedback WireFault
feedback_value bytes = whole_value feedback_rows empty_feedback feedback_of bytes

unfoldable pub commit_spelling : Commit → List ℕ
commit_spelling it = spelling commit_rows (commit_read it)

unfoldable pub commit_value : List ℕ → Result Commit WireFault
commit_value bytes = whole_value commit_rows empty_commit commit_of bytes
