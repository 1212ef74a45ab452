-- The fields of cells, states of addresses, pieces, letters on the way and commits. While one is read, what it needs may still be absent.
use Rattle.std.specs.Prelude.{false, pos, List, [], ◌∷◌, map, Option, Some, None, option_map}
use Rattle.proto_wire.specs.Message.{Row, texts, bytes, bools, enums, numbers, messages, lists}
use Rattle.typed_values.specs.Tables.{empty_address, address_rows}
use Rattle.folder_messages.specs.Needs.{◌>>=◌}
use Rattle.folder_messages.specs.Parts.{shorts, all_of}
use Rattle.folder_messages.specs.Entries.{empty_entry, entry_rows, entry_read, entry_of}
use Rattle.piece_messages.specs.declared.cell_state.CellState.{CellState}
use Rattle.piece_messages.specs.declared.address_state.AddressState.{AddressState}
use Rattle.piece_messages.specs.declared.address_state.AddressRead.{AddressRead}
use Rattle.piece_messages.specs.declared.piece.Piece.{Piece}
use Rattle.piece_messages.specs.declared.piece.PieceRead.{PieceRead}
use Rattle.piece_messages.specs.declared.feedback.Feedback.{Feedback}
use Rattle.piece_messages.specs.declared.feedback.FeedbackRead.{FeedbackRead}
use Rattle.piece_messages.specs.declared.commit.Commit.{Commit}
use Rattle.piece_messages.specs.declared.commit.CommitRead.{CommitRead}
use Rattle.piece_messages.specs.Stored.{empty_letter, letter_rows, letter_read, letter_of, empty_delay, delay_rows, delay_read, delay_of, empty_egress, egress_rows, egress_read, egress_of}

-- ---- cells

unfoldable pub empty_cell : CellState
empty_cell = record { name = []; typename = []; mode = pos 0; millis = 0; has_value = false; stamp = 0; value = [] }

unfoldable pub cell_rows : List (Row CellState)
cell_rows =
    texts 1 (λ it. it.name) (λ it new. record it { name = new })
    ∷ texts 2 (λ it. it.typename) (λ it new. record it { typename = new })
    ∷ enums 3 (λ it. it.mode) (λ it new. record it { mode = new })
    ∷ numbers 4 (λ it. it.millis) (λ it new. record it { millis = new })
    ∷ bools 5 (λ it. it.has_value) (λ it new. record it { has_value = new })
    ∷ numbers 6 (λ it. it.stamp) (λ it new. record it { stamp = new })
    ∷ bytes 7 (λ it. it.value) (λ it new. record it { value = new })
    ∷ []

-- ---- states of addresses

unfoldable pub empty_state : AddressRead
empty_state = record { address = None; seen = 0; cells = [] }

unfoldable pub state_rows : List (Row AddressRead)
state_rows =
    messages empty_address address_rows 1 (λ it. it.address) (λ it new. record it { address = new })
    ∷ numbers 2 (λ it. it.seen) (λ it new. record it { seen = new })
    ∷ lists empty_cell cell_rows 3 (λ it. it.cells) (λ it new. record it { cells = new })
    ∷ []

abbrev pub state_read : AddressState → AddressRead
state_read it = record { address = Some it.address; seen = it.seen; cells = it.cells }

-- it needs its address
unfoldable pub state_of : AddressRead → Option AddressState
state_of it = option_map (λ address. record { address = address; seen = it.seen; cells = it.cells }) it.address

-- ---- pieces

unfoldable pub empty_piece : PieceRead
empty_piece = record { partition = 0; entries = []; egress = []; letters = []; states = []; delays = [] }

unfoldable pub piece_rows : List (Row PieceRead)
piece_rows =
    shorts 1 (λ it. it.partition) (λ it new. record it { partition = new })
    ∷ lists empty_entry entry_rows 2 (λ it. it.entries) (λ it new. record it { entries = new })
    ∷ lists empty_egress egress_rows 3 (λ it. it.egress) (λ it new. record it { egress = new })
    ∷ lists empty_letter letter_rows 4 (λ it. it.letters) (λ it new. record it { letters = new })
    ∷ lists empty_state state_rows 5 (λ it. it.states) (λ it new. record it { states = new })
    ∷ lists empty_delay delay_rows 6 (λ it. it.delays) (λ it new. record it { delays = new })
    ∷ []

abbrev pub piece_read : Piece → PieceRead
piece_read it = record {
  partition = it.partition;
  entries = map entry_read it.entries;
  egress = map egress_read it.egress;
  letters = map letter_read it.letters;
  states = map state_read it.states;
  delays = map delay_read it.delays;
}

-- it needs what all its messages need
unfoldable pub piece_of : PieceRead → Option Piece
piece_of it = do
  entries ← all_of entry_of it.entries
  egress ← all_of egress_of it.egress
  letters ← all_of letter_of it.letters
  states ← all_of state_of it.states
  delays ← all_of delay_of it.delays
  Some (record { partition = it.partition; entries = entries; egress = egress; letters = letters; states = states; delays = delays })

-- ---- letters on the way

unfoldable pub empty_feedback : FeedbackRead
empty_feedback = record { letters = [] }

unfoldable pub feedback_rows : List (Row FeedbackRead)
feedback_rows = lists empty_letter letter_rows 1 (λ it. it.letters) (λ it new. record it { letters = new }) ∷ []

abbrev pub feedback_read : Feedback → FeedbackRead
feedback_read it = record { letters = map letter_read it.letters }

-- it needs what all its letters need
unfoldable pub feedback_of : FeedbackRead → Option Feedback
feedback_of it = option_map (λ letters. record { letters = letters }) (all_of letter_of it.letters)

-- ---- commits

unfoldable pub empty_commit : CommitRead
empty_commit = record { epoch = 0; records = [] }

unfoldable pub commit_rows : List (Row CommitRead)
commit_rows =
    numbers 1 (λ it. it.epoch) (λ it new. record it { epoch = new })
    ∷ lists empty_egress egress_rows 2 (λ it. it.records) (λ it new. record it { records = new })
    ∷ []

abbrev pub commit_read : Commit → CommitRead
commit_read it = record { epoch = it.epoch; records = map egress_read it.records }

-- it needs what all its records need
unfoldable pub commit_of : CommitRead → Option Commit
commit_of it = option_map (λ records. record { epoch = it.epoch; records = records }) (all_of egress_of it.records)
