-- What a checkpoint keeps is work from which turns may begin.
use Rattle.std.proofs.Common.{inl, inr, sym, subst, ℕ, ◌+◌, ◌≤◌, max, List, [], ◌∷◌, ◌++◌, map, Bool, true, false, cond, Option, Some, arith}
use Rattle.std.specs.Prelude.{nat_le}
use Rattle.std.specs.Cmp.{second_so}
use Rattle.std.proofs.lemmas.Bool.{leb-true}
use Rattle.std.specs.Option.{option_map_or}
use Rattle.typed_values.specs.declared.address.Address.{Address}
use Rattle.typed_values.specs.Sameness.{same_address}
use Rattle.address_routing.specs.declared.module.Module.{Module}
use Rattle.piece_messages.specs.declared.cell_state.CellState.{CellState}
use Rattle.piece_messages.specs.declared.address_state.AddressState.{AddressState}
use Rattle.piece_messages.specs.declared.piece.Piece.{Piece}
use Rattle.piece_messages.specs.Stands.{cell_of, cells_at, seen_at, state_at}
use Rattle.folder_form.specs.declared.shape.Shape.{Shape}
use Rattle.folder_form.specs.declared.loaded.Loaded.{Loaded}
use Rattle.folder_form.specs.Pieces.{latest_cell, latest_in, latest_state, owns_piece}
use Rattle.snapshot_files.specs.Stores.{home_in}
use Rattle.snapshot_files.specs.Reading.{AreOwned, FitsShape}
use Rattle.checkpoint_state.specs.Stored.{states_in, delays_in, letters_in, on_the_way}
use Rattle.statefun_driver.specs.Origins.{AreStamped, IsSoundOrigin}
use Rattle.statefun_driver.proofs.Restored.{still_restored}
use Rattle.checkpoint_drive.specs.Begins.{shape_of, stored_origin}

-- ---- states of no later moment

left_max : (a b moment : ℕ) → max a b ≤ moment → a ≤ moment
left_max a b moment h = omega (arith, h)

right_max : (a b moment : ℕ) → max a b ≤ moment → b ≤ moment
right_max a b moment h = omega (arith, h)

join_max : (a b moment : ℕ) → a ≤ moment → b ≤ moment → max a b ≤ moment
join_max a b moment h k = omega (arith, h, k)

stamp_by : (t : Bool) (stamp moment : ℕ) → stamp ≤ moment → cond t stamp 0 ≤ moment
stamp_by true stamp moment h = h
stamp_by false stamp moment h = omega arith

stamped_cells : (moment : ℕ) (cells : List CellState) → latest_cell cells ≤ moment → AreStamped moment (map cell_of cells)
stamped_cells moment [] h = tt
stamped_cells moment (cell ∷ cells) h = (stamp_by cell.has_value cell.stamp moment (left_max cell.stamp (latest_cell cells) moment h), stamped_cells moment cells (right_max cell.stamp (latest_cell cells) moment h))

record IsEarly (moment : ℕ) (state : Option AddressState) : Type 0 where
  seen : option_map_or (λ (s : AddressState). s.seen) state 0 ≤ moment
  stamps : AreStamped moment (option_map_or (λ (s : AddressState). map cell_of s.cells) state [])

early_at : (moment : ℕ) (states : List AddressState) (address : Address) → latest_state states ≤ moment → IsEarly moment (state_at states address)
early_at moment [] address h = record { seen = omega arith; stamps = tt }
early_at moment (state ∷ states) address h = by (same_address state.address address) (early_at moment states address (right_max (max state.seen (latest_cell state.cells)) (latest_state states) moment h))
  where
    first : max state.seen (latest_cell state.cells) ≤ moment
    first = left_max (max state.seen (latest_cell state.cells)) (latest_state states) moment h

    by : (t : Bool) → IsEarly moment (state_at states address) → IsEarly moment (cond t (Some state) (state_at states address))
    by true rest = record { seen = left_max state.seen (latest_cell state.cells) moment first; stamps = stamped_cells moment state.cells (right_max state.seen (latest_cell state.cells) moment first) }
    by false rest = rest

-- ---- pieces of no later moment

latest_append : (moment : ℕ) (xs ys : List AddressState) → latest_state xs ≤ moment → latest_state ys ≤ moment → latest_state (xs ++ ys) ≤ moment
latest_append moment [] ys h k = k
latest_append moment (x ∷ xs) ys h k =
    join_max (max x.seen (latest_cell x.cells)) (latest_state (xs ++ ys)) moment (left_max (max x.seen (latest_cell x.cells)) (latest_state xs) moment h)
    (latest_append moment xs ys (right_max (max x.seen (latest_cell x.cells)) (latest_state xs) moment h) k)

latest_of : (piece : Piece) (moment : ℕ) → latest_in piece ≤ moment → latest_state piece.states ≤ moment
unfolding latest_in
latest_of piece moment h = h

latest_pieces : (shape : Shape) (moment partition : ℕ) (pieces : List Piece) → AreOwned shape moment partition pieces → latest_state (states_in pieces) ≤ moment
latest_pieces shape moment partition [] owned = omega arith
latest_pieces shape moment partition (piece ∷ pieces) owned =
    latest_append moment piece.states (states_in pieces)
    (latest_of piece moment (leb-true (latest_in piece) moment (second_so (owns_piece (home_in shape partition) piece) (nat_le (latest_in piece) moment) owned.0)))
    (latest_pieces shape moment (partition + 1) pieces owned.1)

latest_loaded : (shape : Shape) (loaded : Loaded) → FitsShape shape loaded → latest_state (states_in loaded.pieces) ≤ loaded.moment
latest_loaded shape loaded (inl none) = subst (λ (l : Loaded). latest_state (states_in l.pieces) ≤ l.moment) (sym none) (omega arith)
latest_loaded shape loaded (inr fits) = latest_pieces shape loaded.moment 0 loaded.pieces fits.each_piece

pub stored_sound : (m : Module) (stored : ℕ) (loaded : Loaded) → FitsShape (shape_of m) loaded → IsSoundOrigin (stored_origin stored loaded)
stored_sound m stored loaded fits =
    let early = latest_loaded (shape_of m) loaded fits in
    still_restored (letters_in loaded.pieces ++ on_the_way loaded.feedback) (cells_at (states_in loaded.pieces)) (seen_at (states_in loaded.pieces)) (delays_in loaded.pieces) loaded.moment
    (λ address. (early_at loaded.moment (states_in loaded.pieces) address early).seen) (λ address. (early_at loaded.moment (states_in loaded.pieces) address early).stamps)
