-- The states of all addresses, in the order of their encoded addresses.
use mathlib.Core.Path.{fun_ext}
use Rattle.std.proofs.Common.{◌≡◌, ◌∙◌, sym, ap, subst, refl, ℕ, ◌≤◌, List, [], ◌∷◌, map, Bool, true, false, cond, Option, Some, Result, Ok, IsPermutation, arith}
use Rattle.std.specs.List.{AllByRecursion, IsDistinct, list_all}
use Rattle.std.specs.List.Sorted.{IsSortedBy}
use Rattle.std.specs.Option.{option_map_or}
use Rattle.std.specs.Ordering.{is_lt, nat_cmp, eq_by_cmp, ordering_reverse}
use Rattle.std.specs.declared.cmp.Ordering.{Ordering}
use Rattle.std.specs.declared.cmp.Ordering.TheVariants.{Less, Equal, Greater}
use Rattle.std.specs.Cmp.{eq_by_cmp_equiv}
use Rattle.std.specs.Cmp.Lexicographic.{slice_cmp}
use Rattle.std.specs.BTreeMap.{IsOrdered, is_at}
use Rattle.std.specs.Map.{lookup, keys_of}
use Rattle.std.proofs.lemmas.Bool.{and_from}
use Rattle.std.proofs.lemmas.Bool.Decides.{same_from_decides}
use Rattle.std.proofs.lemmas.Cmp.{nat_list_cmp_total}
use Rattle.std.proofs.lemmas.List.Elements.{All-from_recursion, recursion_from_All, All-weaker}
use Rattle.std.proofs.lemmas.List.Sorted.{ranks_by, All-permutation, IsPermutation-map}
use Rattle.std.proofs.lemmas.Map.Lookups.{exact_bytes}
use Rattle.std.proofs.lemmas.Map.Keys.{IsDistinct-from_sorted, IsDistinct-IsPermutation}
use Rattle.std.proofs.lemmas.Map.Views.{All-found}
use Rattle.proto_wire.specs.declared.fault.WireFault.{WireFault}
use Rattle.typed_values.specs.declared.address.Address.{Address}
use Rattle.typed_values.specs.declared.cells.Cell.{Cell}
use Rattle.typed_values.specs.Sameness.{same_address}
use Rattle.typed_values.proofs.Sameness.{same_address-Decides}
use Rattle.typed_values.specs.Spelling.{address_spelling, address_value}
use Rattle.keyed_queues.specs.Keys.{address_order}
use Rattle.batch_queue.proofs.Addresses.{addresses_total, address_test}
use Rattle.batch_queue.proofs.Spreading.{Rises, rises_sorted, rises_mapped}
use Rattle.batch_queue.proofs.Gathering.{unmapped, same_found}
use Rattle.piece_messages.specs.declared.address_state.AddressState.{AddressState}
use Rattle.piece_messages.specs.Stands.{cell_of, state_at}
use Rattle.folder_form.specs.Pieces.{are_cells, are_in_order, is_before, latest_cell, latest_state}
use Rattle.partition_core.specs.declared.actor.Actor.{Actor}
use Rattle.partition_core.specs.declared.actors.Actors.{Actors}
use Rattle.partition_core.specs.declared.keeping.Encoded.{Encoded}
use Rattle.partition_core.specs.Kept.{actor_in, cells_in, seen_in}
use Rattle.partition_core.specs.KeptWork.{AreUpTo, StandFor}
use Rattle.partition_core.specs.States.{kept_cell, kept_state, IsSound}
use Rattle.partition_core.proofs.KeptCells.{cells_again, are_cells_again, stamps_up_to}

abbrev pub Entries : Type 0
Entries = List (Address × Actor)

abbrev pub state_of : Address × Actor → AddressState
state_of entry = kept_state entry.0 entry.1

abbrev pub part : Address × Actor → Encoded
part entry = record { key = address_spelling entry.0; state = state_of entry }

addresses_alike : (a b : Address) → same_address a b ≡ same_address b a
addresses_alike a b = same_from_decides (same_address a b) (same_address b a) ((λ e. (same_address-Decides a b).0 e), (λ e. (same_address-Decides a b).1 e)) ((λ e. sym ((same_address-Decides b a).0 e)), (λ e. (same_address-Decides b a).1 (sym e)))

-- ---- what is read of the state of an address is what its entry has

module _ {V : Type 0} (read : AddressState → V) (own : Actor → V) (none : V) where
  abbrev ReadsAlike : Address × Actor → Type 0
  ReadsAlike entry = read (state_of entry) ≡ own entry.1

  pub found_state : (entries : Entries) (address : Address) → AllByRecursion ReadsAlike entries
      → option_map_or read (state_at (map state_of entries) address) none ≡ option_map_or own (lookup (is_at (address_order address)) entries) none
  found_state [] address alike = refl
  found_state (entry ∷ entries) address alike =
      by (same_address entry.0 address) (found_state entries address alike.1)
      ∙ ap (λ t. option_map_or own (cond t (Some entry.1) (lookup (is_at (address_order address)) entries)) none) (addresses_alike entry.0 address ∙ sym (address_test address entry.0))
    where
      by : (t : Bool) → option_map_or read (state_at (map state_of entries) address) none ≡ option_map_or own (lookup (is_at (address_order address)) entries) none
          → option_map_or read (cond t (Some (state_of entry)) (state_at (map state_of entries) address)) none ≡ option_map_or own (cond t (Some entry.1) (lookup (is_at (address_order address)) entries)) none
      by true more = alike.0
      by false more = more

cells_alike : (entries : Entries) → AllByRecursion IsSound entries → AllByRecursion (λ (entry : Address × Actor). map cell_of (state_of entry).cells ≡ entry.1.cells) entries
cells_alike [] sound = tt
cells_alike (entry ∷ entries) sound = (cells_again entry.1.cells sound.0.1.kept, cells_alike entries sound.1)

seen_alike : (entries : Entries) → AllByRecursion (λ (entry : Address × Actor). (state_of entry).seen ≡ entry.1.seen) entries
seen_alike [] = tt
seen_alike (entry ∷ entries) = (refl, seen_alike entries)

-- ---- their form

all_sound : (entries : Entries) → AllByRecursion IsSound entries → list_all (λ (state : AddressState). are_cells state.cells) (map state_of entries) ≡ true
all_sound [] sound = refl
all_sound (entry ∷ entries) sound =
    and_from (are_cells (state_of entry).cells) (list_all (λ (state : AddressState). are_cells state.cells) (map state_of entries)) (are_cells_again entry.1.cells sound.0.1) (all_sound entries sound.1)

abbrev bytes_lt : List ℕ → List ℕ → Bool
bytes_lt x y = is_lt (slice_cmp nat_cmp x y)

same_inside : (a b : Address) → ◌≡◌ {A = Result Address WireFault} (Ok a) (Ok b) → a ≡ b
same_inside a b e = cc

-- of two addresses that differ and do not fall one stands before the other
before : (x y : Address × Actor) → bytes_lt (address_spelling y.0) (address_spelling x.0) ≡ false → eq_by_cmp address_order x.0 y.0 ≡ false → IsSound x → IsSound y → is_before (state_of x) (state_of y) ≡ true
before x y rises apart told_x told_y = by (slice_cmp nat_cmp kx ky) refl
  where
    kx : List ℕ
    kx = address_spelling x.0

    ky : List ℕ
    ky = address_spelling y.0

    alike : kx ≡ ky → x.0 ≡ y.0
    alike e = same_inside x.0 y.0 (sym told_x.0 ∙ ap address_value e ∙ told_y.0)

    by : (o : Ordering) → slice_cmp nat_cmp kx ky ≡ o → is_lt (slice_cmp nat_cmp kx ky) ≡ true
    by Less e = ap is_lt e
    by Equal e = absurd (let t : true ≡ false = sym ((eq_by_cmp_equiv addresses_total).refl x.0) ∙ ap (eq_by_cmp address_order x.0) (alike (exact_bytes kx ky e)) ∙ apart in cc)
    by Greater e = absurd (let t : true ≡ false = sym (ap is_lt (nat_list_cmp_total.antisymm ky kx ∙ ap ordering_reverse e)) ∙ rises in cc)

in_order : (entries : Entries) → Rises (λ (x y : Address × Actor). bytes_lt (address_spelling x.0) (address_spelling y.0)) entries → IsDistinct (eq_by_cmp address_order) (keys_of entries) → AllByRecursion IsSound entries → are_in_order (map state_of entries) ≡ true
unfolding IsDistinct
in_order [] rises apart sound = refl
in_order (x ∷ []) rises apart sound = refl
in_order (x ∷ y ∷ entries) rises apart sound =
    and_from (is_before (state_of x) (state_of y)) (are_in_order (map state_of (y ∷ entries))) (before x y rises.0.0 apart.0.0 sound.0 sound.1.0) (in_order (y ∷ entries) rises.1 apart.1 sound.1)

-- ---- moments

abbrev IsEarly : ℕ → Address × Actor → Type 0
IsEarly moment entry = (entry.1.seen ≤ moment) × AllByRecursion (λ (cell : Cell). cell.stamp ≤ moment) entry.1.cells

all_early : (moment : ℕ) (entries : Entries) → AllByRecursion (IsEarly moment) entries → latest_state (map state_of entries) ≤ moment
all_early moment [] early = omega arith
all_early moment (entry ∷ entries) early =
    let seen : entry.1.seen ≤ moment = early.0.0 in
    let stamps : latest_cell (map kept_cell entry.1.cells) ≤ moment = stamps_up_to moment entry.1.cells early.0.1 in
    let rest : latest_state (map state_of entries) ≤ moment = all_early moment entries early.1 in
    omega arith

early_entry : (moment : ℕ) (actors : Actors) → AreUpTo moment (cells_in actors) (seen_in actors) → (entry : Address × Actor) → actor_in actors entry.0 ≡ Some entry.1 → IsEarly moment entry
early_entry moment actors up entry there =
    subst (λ (found : Option Actor). (option_map_or (λ (actor : Actor). actor.seen) found 0 ≤ moment) × AllByRecursion (λ (cell : Cell). cell.stamp ≤ moment) (option_map_or (λ (actor : Actor). actor.cells) found [])) there (up entry.0)

-- ---- all of it

states_mapped : (entries : Entries) → map (λ (one : Encoded). one.state) (map part entries) ≡ map state_of entries
states_mapped [] = refl
states_mapped (entry ∷ entries) = ap (λ states. state_of entry ∷ states) (states_mapped entries)

pub all_states : (actors : Actors) → IsOrdered address_order actors.actors → AllByRecursion IsSound actors.actors.entries
    → (all : List Encoded) → IsPermutation (map part actors.actors.entries) all
    → IsSortedBy (λ (x y : Encoded). bytes_lt x.key y.key) all
    → StandFor (cells_in actors) (seen_in actors) (map (λ (one : Encoded). one.state) all)
all_states actors ordered sound all moved sorted =
    let es = actors.actors.entries in
    let un = unmapped part es all moved in
    let fs = un.0 in
    let apart = IsDistinct-IsPermutation (eq_by_cmp address_order) (eq_by_cmp_equiv addresses_total).symm (keys_of es) (keys_of fs)
    (IsPermutation-map (λ (e : Address × Actor). e.0) es fs un.1) (IsDistinct-from_sorted address_order (keys_of es) ordered) in
    let sound_now : AllByRecursion IsSound fs = recursion_from_All IsSound fs (All-permutation IsSound es fs un.1 (All-from_recursion IsSound es sound)) in
    let keyed = ranks_by nat_list_cmp_total (λ (one : Encoded). one.key) in
    let rises : Rises (λ (x y : Address × Actor). bytes_lt (part x).key (part y).key) fs = rises_mapped part (λ (x y : Encoded). bytes_lt x.key y.key) fs
    (subst (Rises (λ (x y : Encoded). bytes_lt x.key y.key)) un.2 (rises_sorted (λ (x y : Encoded). bytes_lt x.key y.key) keyed all sorted)) in
    let stand : StandFor (cells_in actors) (seen_in actors) (map state_of fs) = record {
      cells = fun_ext (λ a. found_state (λ (s : AddressState). map cell_of s.cells) (λ (actor : Actor). actor.cells) [] fs a (cells_alike fs sound_now)
          ∙ ap (λ o. option_map_or (λ (actor : Actor). actor.cells) o []) (same_found es fs un.1 apart a));
      seen = fun_ext (λ a. found_state (λ (s : AddressState). s.seen) (λ (actor : Actor). actor.seen) 0 fs a (seen_alike fs)
          ∙ ap (λ o. option_map_or (λ (actor : Actor). actor.seen) o 0) (same_found es fs un.1 apart a));
      in_order = in_order fs rises apart sound_now;
      sound = all_sound fs sound_now;
      moments = λ moment up. all_early moment fs (recursion_from_All (IsEarly moment) fs (All-permutation (IsEarly moment) es fs un.1
          (All-weaker _ (IsEarly moment) (λ e found. early_entry moment actors up e found) es (All-found addresses_total actors.actors ordered))));
    } in
    subst (StandFor (cells_in actors) (seen_in actors)) (sym (ap (map (λ (one : Encoded). one.state)) un.2 ∙ states_mapped fs)) stand
