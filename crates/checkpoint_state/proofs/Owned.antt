-- Pieces of what belongs to their partitions have states with cells that addresses may have.
use Rattle.std.proofs.Common.{◌≡◌, ◌∙◌, refl, ℕ, ◌+◌, List, [], ◌∷◌, true}
use Rattle.std.specs.List.{list_all}
use Rattle.std.proofs.lemmas.Bool.{and_from, and_parts}
use Rattle.std.proofs.lemmas.List.Folds.{list_all-append}
use Rattle.piece_messages.specs.declared.address_state.AddressState.{AddressState}
use Rattle.piece_messages.specs.declared.piece.Piece.{Piece}
use Rattle.folder_form.specs.declared.pieces.Home.{Home}
use Rattle.folder_form.specs.Pieces.{are_cells, are_in_order, owns, owns_delay, owns_piece, owns_state}
use Rattle.checkpoint_state.specs.Stored.{states_in}
use Rattle.checkpoint_state.specs.Matching.{AreOwned, HaveCells, has_cells}

owned_states : (home : Home) (states : List AddressState) → list_all (owns_state home) states ≡ true → HaveCells states
owned_states home [] owned = refl
owned_states home (state ∷ states) owned =
    let parts = and_parts (owns_state home state) (list_all (owns_state home) states) owned in
    and_from (are_cells state.cells) (list_all has_cells states) (and_parts (owns home state.address) (are_cells state.cells) parts.0).1 (owned_states home states parts.1)

pub owned_piece : (home : Home) (piece : Piece) → owns_piece home piece ≡ true → HaveCells piece.states
unfolding owns_piece
owned_piece home piece owned =
    let before_delays = and_parts _ (list_all (owns_delay home) piece.delays) owned in
    let before_order = and_parts _ (are_in_order piece.states) before_delays.0 in
    let states = and_parts _ (list_all (owns_state home) piece.states) before_order.0 in
    owned_states home piece.states states.1

-- what is loaded of a folder meets what is asked of a checkpoint here
pub owned_have_cells : (partitions partition : ℕ) (pieces : List Piece) → AreOwned partitions partition pieces → HaveCells (states_in pieces)
owned_have_cells partitions partition [] owned = refl
owned_have_cells partitions partition (piece ∷ pieces) owned =
    list_all-append has_cells piece.states (states_in pieces)
    ∙ and_from (list_all has_cells piece.states) (list_all has_cells (states_in pieces)) (owned_piece (record { partitions = partitions; partition = partition }) piece owned.0) (owned_have_cells partitions (partition + 1) pieces owned.1)
