-- States that are gone through one by one.
use Rattle.std.proofs.Common.{◌≡◌, ℕ, List, [], ◌∷◌, Bool, true, false, ◌&&◌, not, refl, ap, ◌∙◌, Option, None, Some, max, map, arith}
use Rattle.std.specs.Ordering.{nat_cmp, is_lt}
use Rattle.std.specs.Option.{option_map_or}
use Rattle.std.specs.List.{list_any}
use Rattle.std.specs.Cmp.Lexicographic.{slice_cmp}
use Rattle.typed_values.specs.Spelling.{address_spelling}
use Rattle.typed_values.specs.Sameness.{same_bytes}
use Rattle.address_routing.specs.Routing.{all_apart}
use Rattle.piece_messages.specs.declared.cell_state.CellState.{CellState}
use Rattle.piece_messages.specs.declared.address_state.AddressState.{AddressState}
use Rattle.folder_form.specs.Pieces.{are_behind, are_in_order, cell_name}

-- a spelling stands behind the one before, where there is one
abbrev pub follows : Option (List ℕ) → List ℕ → Bool
follows before spelled = option_map_or (λ bytes. is_lt (slice_cmp nat_cmp bytes spelled)) before true

-- states stand in order behind a spelling
abbrev pub in_order_behind : Option (List ℕ) → List AddressState → Bool
in_order_behind before [] = true
in_order_behind before (state ∷ states) = follows before (address_spelling state.address) && are_behind state states

pub all-in-order : (states : List AddressState) → in_order_behind None states ≡ are_in_order states
all-in-order [] = refl
all-in-order (state ∷ states) = refl

behind : (state : AddressState) (states : List AddressState) → are_behind state states ≡ in_order_behind (Some (address_spelling state.address)) states
behind state [] = refl
behind state (next ∷ states) = refl

pub order-goes-on : (before : Option (List ℕ)) (state : AddressState) (states : List AddressState) → follows before (address_spelling state.address) ≡ true → in_order_behind before (state ∷ states) ≡ in_order_behind (Some (address_spelling state.address)) states
order-goes-on before state states e = rw e (behind state states)

pub order-ends : (before : Option (List ℕ)) (state : AddressState) (states : List AddressState) → follows before (address_spelling state.address) ≡ false → in_order_behind before (state ∷ states) ≡ false
order-ends before state states e = rw e refl

-- ---- names

named-alike : (cell : CellState) (others : List CellState) → list_any (same_bytes (cell_name cell)) (map cell_name others) ≡ list_any (λ other. same_bytes (cell_name cell) (cell_name other)) others
named-alike cell [] = refl
named-alike cell (other ∷ others) = rw (named-alike cell others) refl

pub apart-goes-on : (cell : CellState) (others : List CellState) → list_any (λ other. same_bytes (cell_name cell) (cell_name other)) others ≡ false → all_apart same_bytes (map cell_name (cell ∷ others)) ≡ all_apart same_bytes (map cell_name others)
apart-goes-on cell others e = ap (λ b. not b && all_apart same_bytes (map cell_name others)) (named-alike cell others ∙ e)

pub apart-ends : (cell : CellState) (others : List CellState) → list_any (λ other. same_bytes (cell_name cell) (cell_name other)) others ≡ true → all_apart same_bytes (map cell_name (cell ∷ others)) ≡ false
apart-ends cell others e = ap (λ b. not b && all_apart same_bytes (map cell_name others)) (named-alike cell others ∙ e)

-- ---- moments

pub risen : (latest a b : ℕ) → max latest (max a b) ≡ max (max a latest) b
risen latest a b = omega arith
