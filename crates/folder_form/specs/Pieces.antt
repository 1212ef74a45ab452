-- What may stand in the file of a partition: only what belongs to it.
use Rattle.std.specs.Prelude.{ℕ, length, List, [], ◌∷◌, map, Bool, true, false, ◌&&◌, nat_eq, nat_le, max}
use Rattle.std.specs.List.{list_all}
use Rattle.std.specs.Ordering.{nat_cmp, is_lt}
use Rattle.std.specs.Cmp.Lexicographic.{slice_cmp}
use Rattle.typed_values.specs.declared.address.Address.{Address}
use Rattle.typed_values.specs.declared.letter.Letter.{Letter}
use Rattle.typed_values.specs.declared.record.Delay.{Delay}
use Rattle.typed_values.specs.declared.record.EgressRecord.{EgressRecord}
use Rattle.typed_values.specs.Sameness.{same_bytes}
use Rattle.typed_values.specs.Spelling.{address_spelling}
use Rattle.address_routing.specs.Partitions.{partition_of}
use Rattle.address_routing.specs.Routing.{all_apart}
use Rattle.request_reply.specs.Flaws.{is_mode}
use Rattle.run_record.specs.declared.entry.Entry.{Entry}
use Rattle.run_record.specs.declared.entry.Step.{Step}
use Rattle.run_record.specs.declared.entry.Step.TheVariants.{Take, Batch, Register, Due}
use Rattle.piece_messages.specs.declared.cell_state.CellState.{CellState}
use Rattle.piece_messages.specs.declared.address_state.AddressState.{AddressState}
use Rattle.piece_messages.specs.declared.piece.Piece.{Piece}
pub use Rattle.folder_form.specs.declared.pieces.Home.{Home}

abbrev pub owns : Home → Address → Bool
owns home address = nat_eq (partition_of address home.partitions) home.partition

-- ---- entries, egress, letters, delays

-- a step of one of its addresses; a take is of a split, and stands in the manifest
abbrev pub owns_step : Home → Step → Bool
owns_step home (Take split) = false
owns_step home (Batch reply) = owns home reply.address
owns_step home (Register reply) = owns home reply.address
owns_step home (Due address moment) = owns home address

abbrev pub owns_entry : Home → Entry → Bool
owns_entry home entry = owns_step home entry.step

abbrev pub owns_record : Home → EgressRecord → Bool
owns_record home given = owns home given.sender

abbrev pub owns_letter : Home → Letter → Bool
owns_letter home letter = owns home letter.target

abbrev pub owns_delay : Home → Delay → Bool
owns_delay home delay = owns home delay.sender

unfoldable pub owns_letters : Home → List Letter → Bool
owns_letters home letters = list_all (owns_letter home) letters

-- ---- states

-- an address has at most so many cells, of values of at most so many bytes
abbrev pub most_cells : ℕ
most_cells = 64

abbrev pub most_bytes : ℕ
most_bytes = 1048576

abbrev pub is_cell : CellState → Bool
is_cell cell = is_mode cell.mode && nat_le (length cell.value) most_bytes

abbrev pub cell_name : CellState → List ℕ
cell_name cell = cell.name

abbrev pub are_cells : List CellState → Bool
are_cells cells = nat_le (length cells) most_cells && all_apart same_bytes (map cell_name cells) && list_all is_cell cells

abbrev pub owns_state : Home → AddressState → Bool
owns_state home state = owns home state.address && are_cells state.cells

-- states stand once each, in byte order of their encoded addresses
abbrev pub is_before : AddressState → AddressState → Bool
is_before a b = is_lt (slice_cmp nat_cmp (address_spelling a.address) (address_spelling b.address))

abbrev pub are_behind : AddressState → List AddressState → Bool
are_behind state [] = true
are_behind state (next ∷ states) = is_before state next && are_behind next states

abbrev pub are_in_order : List AddressState → Bool
are_in_order [] = true
are_in_order (state ∷ states) = are_behind state states

-- ---- pieces

unfoldable pub owns_piece : Home → Piece → Bool
owns_piece home piece =
    nat_eq piece.partition home.partition && list_all (owns_entry home) piece.entries && list_all (owns_record home) piece.egress
    && owns_letters home piece.letters && list_all (owns_state home) piece.states && are_in_order piece.states
    && list_all (owns_delay home) piece.delays

-- the greatest moment in a piece: when an address was served last, or a cell stamped
abbrev pub latest_cell : List CellState → ℕ
latest_cell [] = 0
latest_cell (cell ∷ cells) = max cell.stamp (latest_cell cells)

abbrev pub latest_state : List AddressState → ℕ
latest_state [] = 0
latest_state (state ∷ states) = max (max state.seen (latest_cell state.cells)) (latest_state states)

unfoldable pub latest_in : Piece → ℕ
latest_in piece = latest_state piece.states
