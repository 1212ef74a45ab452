use Rattle.piece_messages.proofs.RoundTrip.{cell-written}
use Rattle.piece_messages.proofs.cell_state.encode_cell_state.Goals as goal

pub returns-clause-again : goal.returns-clause-again
returns-clause-again c = cell-written c.in_ok-bytes.bytes c.args.cell.now c.in_ok-bytes.ensures.spelled c.in_ok-bytes.ensures.fits c.in_ok-bytes.ensures.short
