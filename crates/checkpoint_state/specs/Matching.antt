-- When a machine stands at what a checkpoint holds, and how one is made that does.
use Rattle.std.specs.Prelude.{◌≡◌, ℕ, ◌+◌, List, [], ◌∷◌, map, Bool, true}
use Rattle.std.specs.List.{list_all}
use Rattle.typed_values.specs.declared.letter.Letter.{Letter}
use Rattle.typed_values.specs.declared.record.Delay.{Delay}
use Rattle.run_record.specs.Machine.{State}
use Rattle.run_record.specs.Filled.{with_letter, with_delay, with_cells}
use Rattle.piece_messages.specs.declared.address_state.AddressState.{AddressState}
use Rattle.piece_messages.specs.declared.piece.Piece.{Piece}
use Rattle.piece_messages.specs.Stands.{cell_of}
use Rattle.folder_form.specs.declared.loaded.Loaded.{Loaded}
use Rattle.folder_form.specs.Pieces.{are_cells, owns_piece}
use Rattle.checkpoint_state.specs.Stored.{stored_state}

-- what each actor has of its own and the mail are those of the checkpoint; what was given to egresses is left out
abbrev pub StandsAt : State → Loaded → Type 0
StandsAt st loaded = (st.own ≡ (stored_state loaded []).own) × (st.mail ≡ (stored_state loaded []).mail)

-- an address may have the cells of its state
abbrev pub has_cells : AddressState → Bool
has_cells state = are_cells state.cells

abbrev pub HaveCells : List AddressState → Type 0
HaveCells states = list_all has_cells states ≡ true

-- pieces of the partitions from one on, each with what belongs to its partition
abbrev pub AreOwned : ℕ → ℕ → List Piece → Type 0
AreOwned partitions partition [] = Unit {0}
AreOwned partitions partition (piece ∷ pieces) =
    (owns_piece (record { partitions = partitions; partition = partition }) piece ≡ true) × AreOwned partitions (partition + 1) pieces

-- ---- how it is made

abbrev pub with_letters : List Letter → State → State
with_letters [] st = st
with_letters (letter ∷ letters) st = with_letters letters (with_letter letter st)

abbrev pub with_delays : List Delay → State → State
with_delays [] st = st
with_delays (delay ∷ delays) st = with_delays delays (with_delay delay st)

-- from the last on, so that of two states of one address the first counts
abbrev pub with_states : List AddressState → State → State
with_states [] st = st
with_states (state ∷ states) st = with_cells state.address (map cell_of state.cells) state.seen (with_states states st)
