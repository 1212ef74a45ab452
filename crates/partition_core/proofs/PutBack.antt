-- Cells and states that are put back one by one.
use mathlib.Core.Path.{fun_ext}
use Rattle.std.proofs.Common.{◌≡◌, ◌∙◌, sym, ap, refl, ℕ, suc, ◌+◌, ◌<◌, ◌≤◌, nat_le, nat_lt, List, [], ◌∷◌, ◌++◌, map, length, Bool, true, false, cond, not, is_some, Option, Some, None, Result, Ok, Err, arith, leb-true, ltb-true, append-nil}
use Rattle.std.specs.Prelude.{◌&&◌, ◌||◌}
use Rattle.std.specs.List.{list_any, list_all}
use Rattle.std.specs.Option.{option_map_or}
use Rattle.std.specs.Cmp.Lexicographic.{bytes_decides}
use Rattle.std.specs.BTreeMap.{is_at}
use Rattle.std.specs.Map.{lookup}
use Rattle.std.proofs.lemmas.Bool.{and_from, and_parts, false_from_ne_true}
use Rattle.std.proofs.lemmas.List.{append_assoc, length-append}
use Rattle.typed_values.specs.declared.address.Address.{Address}
use Rattle.typed_values.specs.declared.letter.Sender.TheVariants.{Function}
use Rattle.typed_values.specs.declared.cell.CellSpec.{CellSpec}
use Rattle.typed_values.specs.declared.cells.Cell.{Cell}
use Rattle.typed_values.specs.Sameness.{same_bytes, same_address}
use Rattle.typed_values.specs.Cells.{found, is_named, changed, written, empty, registered}
use Rattle.address_routing.specs.Routing.{all_apart}
use Rattle.state_cells.specs.declared.fault.CellFault.{CellFault}
use Rattle.state_cells.specs.declared.fault.CellFault.TheVariants.{TypeDiffers, TooLarge}
use Rattle.state_cells.specs.Answers.{taking, modifying}
use Rattle.state_cells.specs.Kept.{name_of, most_bytes}
use Rattle.piece_messages.specs.declared.cell_state.CellState.{CellState}
use Rattle.piece_messages.specs.declared.address_state.AddressState.{AddressState}
use Rattle.piece_messages.specs.Stands.{cell_of, state_at, cells_at, seen_at}
use Rattle.folder_form.specs.Pieces.{are_cells, is_cell, cell_name}
use Rattle.keyed_queues.specs.Keys.{address_order}
use Rattle.run_record.proofs.Kept.{address_test}
use Rattle.partition_core.specs.declared.actor.Actor.{Actor}
use Rattle.partition_core.specs.declared.actors.Actors.{Actors}
use Rattle.partition_core.specs.Work.{set_for}
use Rattle.partition_core.specs.Kept.{actor_in, cells_in, seen_in}
use Rattle.partition_core.specs.States.{IsRestored}

-- ---- one cell behind others of other names

same_itself : (name : List ℕ) → same_bytes name name ≡ true
same_itself name = (bytes_decides name name).1 refl

found_last : (name : List ℕ) (cells : List Cell) (cell : Cell) → found name cells ≡ None → same_bytes name cell.spec.name ≡ true → found name (cells ++ cell ∷ []) ≡ Some cell
found_last name [] cell none named = ap (λ b. cond b (Some cell) None) named
found_last name (first ∷ cells) cell none named = by (is_named name first) none (found_last name cells cell)
  where
    by : (b : Bool) → cond b (Some first) (found name cells) ≡ None → (found name cells ≡ None → same_bytes name cell.spec.name ≡ true → found name (cells ++ cell ∷ []) ≡ Some cell) → cond b (Some first) (found name (cells ++ cell ∷ [])) ≡ Some cell
    by true e more = absurd cc
    by false e more = more e named

changed_last : (change : Cell → Cell) (name : List ℕ) (cells : List Cell) (cell : Cell) → found name cells ≡ None → same_bytes name cell.spec.name ≡ true → changed change name (cells ++ cell ∷ []) ≡ cells ++ change cell ∷ []
changed_last change name [] cell none named = ap (λ b. cond b (change cell ∷ []) (cell ∷ [])) named
changed_last change name (first ∷ cells) cell none named = by (is_named name first) none (changed_last change name cells cell)
  where
    by : (b : Bool) → cond b (Some first) (found name cells) ≡ None → (found name cells ≡ None → same_bytes name cell.spec.name ≡ true → changed change name (cells ++ cell ∷ []) ≡ cells ++ change cell ∷ [])
        → cond b (change first ∷ cells ++ cell ∷ []) (first ∷ changed change name (cells ++ cell ∷ [])) ≡ first ∷ cells ++ change cell ∷ []
    by true e more = absurd cc
    by false e more = ap (λ rest. first ∷ rest) (more e named)

not_above : (most n : ℕ) → n ≤ most → nat_lt most n ≡ false
not_above most n small = false_from_ne_true (nat_lt most n) (λ e. let above = ltb-true most n e in omega arith)

module _ (kept : CellState) (cells now : List Cell) (spec : CellSpec) (none : found kept.name cells ≡ None) (is : spec ≡ (cell_of kept).spec) (added : now ≡ registered spec cells) where
  put_last : now ≡ cells ++ empty (cell_of kept).spec ∷ []
  put_last = added ∙ ap (λ s. registered s cells) is ∙ ap (λ found. cond (is_some found) cells (cells ++ empty (cell_of kept).spec ∷ [])) none

  -- it takes the value that was kept
  pub takes_value : length kept.value ≤ most_bytes → modifying kept.name (record { typename = kept.typename; has_value = true; value = kept.value }) now ≡ Ok tt
  takes_value size =
      ap (modifying kept.name (record { typename = kept.typename; has_value = true; value = kept.value })) put_last
      ∙ ap (taking (record { typename = kept.typename; has_value = true; value = kept.value })) (found_last kept.name cells _ none (same_itself kept.name))
      ∙ ap (λ b. cond b (cond (nat_lt most_bytes (length kept.value)) (Err TooLarge) (Ok tt)) (Err TypeDiffers)) (same_itself kept.typename)
      ∙ ap (λ b. cond {A = Result (Unit {0}) CellFault} b (Err TooLarge) (Ok tt)) (not_above most_bytes (length kept.value) size)

  pub restored_with : kept.has_value ≡ true → changed (written (record { typename = kept.typename; has_value = true; value = kept.value }) kept.stamp) kept.name now ≡ cells ++ cell_of kept ∷ []
  restored_with has =
      ap (changed (written (record { typename = kept.typename; has_value = true; value = kept.value }) kept.stamp) kept.name) put_last
      ∙ changed_last (written (record { typename = kept.typename; has_value = true; value = kept.value }) kept.stamp) kept.name cells _ none (same_itself kept.name)
      ∙ ap (λ b. cells ++ record {
        spec = (cell_of kept).spec;
        value = cond b (Some (record { typename = kept.typename; has_value = true; value = kept.value })) None;
        stamp = cond b kept.stamp 0;
      } ∷ []) (sym has)

  pub restored_without : kept.has_value ≡ false → now ≡ cells ++ cell_of kept ∷ []
  restored_without has =
      put_last ∙ ap (λ b. cells ++ record {
        spec = (cell_of kept).spec;
        value = cond b (Some (record { typename = kept.typename; has_value = true; value = kept.value })) None;
        stamp = cond b kept.stamp 0;
      } ∷ []) (sym has)

-- ---- cells one by one

-- some cells stand, and these are left of all
pub record Remain (cells : List Cell) (rest all : List CellState) : Type 0 where
  pub so_far : cells ++ map cell_of rest ≡ map cell_of all
  pub apart : all_apart same_bytes (map name_of cells ++ map cell_name rest) ≡ true
  pub few : length cells + length rest ≤ 64
  pub each : list_all is_cell rest ≡ true

pub remain_first : (all : List CellState) → are_cells all ≡ true → Remain [] all all
remain_first all are =
    let outer = and_parts (nat_le (length all) 64 && all_apart same_bytes (map cell_name all)) (list_all is_cell all) are in
    let inner = and_parts (nat_le (length all) 64) (all_apart same_bytes (map cell_name all)) outer.0 in
    record { so_far = refl; apart = inner.1; few = (let few : length all ≤ 64 = leb-true (length all) 64 inner.0 in omega arith); each = outer.1 }

none_alike : (test : List ℕ → Bool) (front : List (List ℕ)) (name : List ℕ) (rest : List (List ℕ)) → list_any test (front ++ name ∷ rest) ≡ false → test name ≡ false
none_alike test [] name rest none = by (test name) none
  where
    by : (b : Bool) → (b || list_any test rest) ≡ false → b ≡ false
    by true e = absurd cc
    by false e = refl
none_alike test (first ∷ front) name rest none = none_alike test front name rest (by (test first) none)
  where
    by : (b : Bool) → (b || list_any test (front ++ name ∷ rest)) ≡ false → list_any test (front ++ name ∷ rest) ≡ false
    by true e = absurd cc
    by false e = e

not_true : (b : Bool) → not b ≡ true → b ≡ false
not_true true e = absurd cc
not_true false e = refl

others_too : (a b : List ℕ) → same_bytes a b ≡ false → same_bytes b a ≡ false
others_too a b apart = by (same_bytes b a) refl
  where
    by : (t : Bool) → same_bytes b a ≡ t → same_bytes b a ≡ false
    by true e = absurd (let t : true ≡ false = sym ((bytes_decides a b).1 (sym ((bytes_decides b a).0 e))) ∙ apart in cc)
    by false e = e

new_name : (cells : List Cell) (name : List ℕ) (rest : List (List ℕ)) → all_apart same_bytes (map name_of cells ++ name ∷ rest) ≡ true → found name cells ≡ None
new_name [] name rest apart = refl
new_name (cell ∷ cells) name rest apart =
    let parts = and_parts (not (list_any (same_bytes cell.spec.name) (map name_of cells ++ name ∷ rest))) (all_apart same_bytes (map name_of cells ++ name ∷ rest)) apart in
    let differs = none_alike (same_bytes cell.spec.name) (map name_of cells) name rest (not_true (list_any (same_bytes cell.spec.name) (map name_of cells ++ name ∷ rest)) parts.0) in
    ap (λ b. cond b (Some cell) (found name cells)) (others_too cell.spec.name name differs) ∙ new_name cells name rest parts.1

names_of_more : (cells : List Cell) (cell : Cell) → map name_of (cells ++ cell ∷ []) ≡ map name_of cells ++ cell.spec.name ∷ []
names_of_more [] cell = refl
names_of_more (first ∷ cells) cell = ap (λ names. first.spec.name ∷ names) (names_of_more cells cell)

module _ (cells : List Cell) (kept : CellState) (rest all : List CellState) (now : Remain cells (kept ∷ rest) all) where
  pub is_new : found kept.name cells ≡ None
  is_new = new_name cells kept.name (map cell_name rest) now.apart

  pub are_few : length cells < 64
  are_few = let few : length cells + suc (length rest) ≤ 64 = now.few in omega arith

  pub is_small : length kept.value ≤ most_bytes
  is_small = let each = and_parts (is_cell kept) (list_all is_cell rest) now.each in leb-true (length kept.value) most_bytes (and_parts _ (nat_le (length kept.value) most_bytes) each.0).1

  pub remain_next : Remain (cells ++ cell_of kept ∷ []) rest all
  remain_next = record {
    so_far = append_assoc cells (cell_of kept ∷ []) (map cell_of rest) ∙ now.so_far;
    apart = ap (λ names. all_apart same_bytes (names ++ map cell_name rest)) (names_of_more cells (cell_of kept)) ∙ ap (all_apart same_bytes) (append_assoc (map name_of cells) (kept.name ∷ []) (map cell_name rest)) ∙ now.apart;
    few = let few : length cells + suc (length rest) ≤ 64 = now.few in let more : length (cells ++ cell_of kept ∷ []) ≡ length cells + 1 = length-append cells (cell_of kept ∷ []) in omega arith;
    each = (and_parts (is_cell kept) (list_all is_cell rest) now.each).1;
  }

-- ---- states one by one, from the last on

-- the states behind these are what the actors stand for
pub record Stands (actors : Actors) (rest all : List AddressState) : Type 0 where
  pub behind : List AddressState
  pub whole : rest ++ behind ≡ all
  pub cells : cells_in actors ≡ cells_at behind
  pub seen : seen_in actors ≡ seen_at behind
  pub sound : list_all (λ (state : AddressState). are_cells state.cells) rest ≡ true

no_actors : (actors : Actors) → actors.actors.entries ≡ [] → (address : Address) → actor_in actors address ≡ None
no_actors actors none address = ap (lookup (is_at (address_order address))) none

pub stand_first : (actors : Actors) (all : List AddressState) → actors.actors.entries ≡ [] → list_all (λ (state : AddressState). are_cells state.cells) all ≡ true → Stands actors all all
stand_first actors all none sound = record {
  behind = [];
  whole = append-nil all;
  cells = fun_ext (λ address. ap (λ found. option_map_or (λ (actor : Actor). actor.cells) found []) (no_actors actors none address));
  seen = fun_ext (λ address. ap (λ found. option_map_or (λ (actor : Actor). actor.seen) found 0) (no_actors actors none address));
  sound = sound;
}

pub all_cells : (states : List AddressState) (state : AddressState) → list_all (λ (state : AddressState). are_cells state.cells) (states ++ state ∷ []) ≡ true → (are_cells state.cells ≡ true) × (list_all (λ (state : AddressState). are_cells state.cells) states ≡ true)
all_cells [] state sound = ((and_parts (are_cells state.cells) true sound).0, refl)
all_cells (first ∷ states) state sound =
    let parts = and_parts (are_cells first.cells) (list_all (λ (state : AddressState). are_cells state.cells) (states ++ state ∷ [])) sound in
    let more = all_cells states state parts.1 in
    (more.0, and_from (are_cells first.cells) (list_all (λ (state : AddressState). are_cells state.cells) states) parts.0 more.1)

put_in_front : {V : Type 0} (read : AddressState → V) (none : V) (state : AddressState) (states : List AddressState) → set_for (Function state.address) (read state) (λ address. option_map_or read (state_at states address) none) ≡ (λ address. option_map_or read (state_at (state ∷ states) address) none)
put_in_front read none state states = fun_ext (λ address. by address (same_address state.address address))
  where
    by : (address : Address) (t : Bool) → cond t (read state) (option_map_or read (state_at states address) none) ≡ option_map_or read (cond t (Some state) (state_at states address)) none
    by address true = refl
    by address false = refl

pub stand_next : (old new : Actors) (state : AddressState) (rest all : List AddressState) → Stands old (rest ++ state ∷ []) all → IsRestored state old new → Stands new rest all
stand_next old new state rest all stands put = record {
  behind = state ∷ stands.behind;
  whole = sym (append_assoc rest (state ∷ []) stands.behind) ∙ stands.whole;
  cells = put.0 ∙ ap (set_for (Function state.address) (map cell_of state.cells)) stands.cells ∙ put_in_front (λ (s : AddressState). map cell_of s.cells) [] state stands.behind;
  seen = put.1 ∙ ap (set_for (Function state.address) state.seen) stands.seen ∙ put_in_front (λ (s : AddressState). s.seen) 0 state stands.behind;
  sound = (all_cells rest state stands.sound).1;
}

-- what one address has now
module _ {V : Type 0} (read : Option Actor → V) (before after : Actors) (a : Address) (now : Actor) (writes : (b : Address) → actor_in after b ≡ cond (is_at (address_order a) b) (Some now) (actor_in before b)) where
  pub actor_put : (λ b. read (actor_in after b)) ≡ set_for (Function a) (read (Some now)) (λ b. read (actor_in before b))
  actor_put = fun_ext (λ b. ap read (writes b) ∙ ap (λ t. read (cond t (Some now) (actor_in before b))) (address_test a b) ∙ by b (same_address a b))
    where
      by : (b : Address) (t : Bool) → read (cond t (Some now) (actor_in before b)) ≡ cond t (read (Some now)) (read (actor_in before b))
      by b true = refl
      by b false = refl
