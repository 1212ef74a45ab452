-- Cells as they are kept, and as they are again.
use Rattle.std.proofs.Common.{◌≡◌, ◌∙◌, sym, ap, refl, ℕ, ◌≤◌, nat_le, List, [], ◌∷◌, ◌++◌, map, take, zero, suc, length, slice_get, Bool, true, false, not, Option, Some, None, arith, le-leb}
use Rattle.std.specs.Prelude.{◌||◌}
use Rattle.std.specs.List.{AllByRecursion, IsDistinct, list_any, list_all}
use Rattle.std.specs.Option.{option_map_or}
use Rattle.std.proofs.lemmas.Bool.{and_from}
use Rattle.std.proofs.lemmas.List.{length-map}
use Rattle.typed_values.specs.declared.value.TypedValue.{TypedValue}
use Rattle.typed_values.specs.declared.cell.Expiry.{Expiry}
use Rattle.typed_values.specs.declared.cell.Expiry.TheVariants.{Never, AfterWrite, AfterInvoke}
use Rattle.typed_values.specs.declared.cells.Cell.{Cell}
use Rattle.typed_values.specs.Sameness.{same_bytes}
use Rattle.address_routing.specs.Routing.{all_apart}
use Rattle.request_reply.specs.Flaws.{mode_of, is_mode}
use Rattle.state_cells.specs.Kept.{AreCells, Each, Holds, IsKept, name_of, most_bytes, most_cells}
use Rattle.piece_messages.specs.Stands.{cell_of}
use Rattle.folder_form.specs.Pieces.{are_cells, is_cell, cell_name, latest_cell}
use Rattle.partition_core.specs.States.{mode_number, kept_cell}

-- ---- what is kept of cells stands for them

mode_again : (mode : Expiry) → mode_of (mode_number mode) ≡ mode
mode_again Never = refl
mode_again AfterWrite = refl
mode_again AfterInvoke = refl

cell_again : (cell : Cell) → IsKept cell → cell_of (kept_cell cell) ≡ cell
cell_again cell kept = by cell.value kept
  where
    by : (value : Option TypedValue) → Holds cell.spec value cell.stamp → cell_of (kept_cell (record { spec = cell.spec; value = value; stamp = cell.stamp })) ≡ record { spec = cell.spec; value = value; stamp = cell.stamp }
    by None holds = λ i. record {
      spec = record { name = cell.spec.name; typename = cell.spec.typename; mode = mode_again cell.spec.mode i; millis = cell.spec.millis };
      value = None;
      stamp = sym holds i;
    }
    by (Some value) holds = λ i. record {
      spec = record { name = cell.spec.name; typename = cell.spec.typename; mode = mode_again cell.spec.mode i; millis = cell.spec.millis };
      value = Some (record { typename = sym holds.1 i; has_value = sym holds.0 i; value = value.value });
      stamp = cell.stamp;
    }

pub cells_again : (cells : List Cell) → Each IsKept cells → map cell_of (map kept_cell cells) ≡ cells
cells_again [] kept = refl
cells_again (cell ∷ cells) kept = λ i. cell_again cell kept.0 i ∷ cells_again cells kept.1 i

-- ---- what is kept of cells is such as an address may have

known_mode : (mode : Expiry) → is_mode (mode_number mode) ≡ true
known_mode Never = refl
known_mode AfterWrite = refl
known_mode AfterInvoke = refl

small_value : (cell : Cell) → IsKept cell → nat_le (length (kept_cell cell).value) most_bytes ≡ true
small_value cell kept = by cell.value kept
  where
    by : (value : Option TypedValue) → Holds cell.spec value cell.stamp → nat_le (length (option_map_or (λ (v : TypedValue). v.value) value [])) most_bytes ≡ true
    by None holds = refl
    by (Some value) holds = le-leb (length value.value) most_bytes holds.2

all_kept : (cells : List Cell) → Each IsKept cells → list_all is_cell (map kept_cell cells) ≡ true
all_kept [] kept = refl
all_kept (cell ∷ cells) kept =
    and_from (is_cell (kept_cell cell)) (list_all is_cell (map kept_cell cells))
    (and_from (is_mode (mode_number cell.spec.mode)) (nat_le (length (kept_cell cell).value) most_bytes) (known_mode cell.spec.mode) (small_value cell kept.0))
    (all_kept cells kept.1)

none_like : (test : List ℕ → Bool) (names : List (List ℕ)) → AllByRecursion (λ name. test name ≡ false) names → list_any test names ≡ false
none_like test [] none = refl
none_like test (name ∷ names) none = ap (λ b. b || list_any test names) none.0 ∙ none_like test names none.1

names_apart : (names : List (List ℕ)) → IsDistinct same_bytes names → all_apart same_bytes names ≡ true
unfolding IsDistinct
names_apart [] distinct = refl
names_apart (name ∷ names) distinct =
    and_from (not (list_any (same_bytes name) names)) (all_apart same_bytes names) (ap not (none_like (same_bytes name) names distinct.0)) (names_apart names distinct.1)

names_again : (cells : List Cell) → map cell_name (map kept_cell cells) ≡ map name_of cells
names_again [] = refl
names_again (cell ∷ cells) = ap (λ names. cell.spec.name ∷ names) (names_again cells)

pub are_cells_again : (cells : List Cell) → AreCells cells → are_cells (map kept_cell cells) ≡ true
are_cells_again cells are =
    let few : nat_le (length (map kept_cell cells)) most_cells ≡ true = ap (λ n. nat_le n most_cells) (length-map cells kept_cell) ∙ le-leb (length cells) most_cells are.few in
    let apart : all_apart same_bytes (map cell_name (map kept_cell cells)) ≡ true = ap (all_apart same_bytes) (names_again cells) ∙ names_apart (map name_of cells) are.distinct in
    and_from _ _ (and_from _ _ few apart) (all_kept cells are.kept)

-- ---- moments

pub stamps_up_to : (moment : ℕ) (cells : List Cell) → AllByRecursion (λ (cell : Cell). cell.stamp ≤ moment) cells → latest_cell (map kept_cell cells) ≤ moment
stamps_up_to moment [] all = omega arith
stamps_up_to moment (cell ∷ cells) all =
    let first : cell.stamp ≤ moment = all.0 in
    let rest : latest_cell (map kept_cell cells) ≤ moment = stamps_up_to moment cells all.1 in
    omega arith

-- ---- one cell more

pub one_more : (cells : List Cell) (place : ℕ) (cell : Cell) → slice_get cells place ≡ Some cell → map kept_cell (take (suc place) cells) ≡ map kept_cell (take place cells) ++ kept_cell cell ∷ []
one_more [] place cell there = absurd cc
one_more (first ∷ cells) zero cell there = let same : first ≡ cell = cc in ap (λ c. kept_cell c ∷ []) same
one_more (first ∷ cells) (suc place) cell there = ap (λ kept. kept_cell first ∷ kept) (one_more cells place cell there)
