-- Maps from keys to lists, where a key that is not there has the empty list.
use Rattle.std.specs.Prelude.{◌≡◌, ℕ, List, [], ◌++◌, Bool, ◌&&◌, map, filter, unwrap_or, Option, Some}
use Rattle.std.specs.List.{AllByRecursion}
use Rattle.std.specs.Ordering.{is_eq}
use Rattle.std.specs.declared.cmp.Ordering.{Ordering}
use Rattle.std.specs.BTreeMap.{BTreeMap, get}
use Rattle.std.specs.Option.{option_map_or}
use Rattle.std.proofs.lemmas.Map.Lookups.{CmpEqualImpliesEq}
use Rattle.keyed_queues.specs.declared.shelf.Shelf.{Shelf}
use Rattle.keyed_queues.specs.declared.shelves.Place.{Place}
use Rattle.keyed_queues.specs.declared.shelves.Placed.{Placed}

-- keys that compare alike are one
abbrev pub AreExact : {K : Type 0} → (K → K → Ordering) → Type 0
AreExact compare = CmpEqualImpliesEq compare

-- the list of a key
abbrev pub list_at : {K X : Type 0} → (K → K → Ordering) → BTreeMap K (List X) → K → List X
list_at compare lists key = unwrap_or (get compare lists key) []

-- one key has this value now, and each other key what it had
pub record SetsAt {K V : Type 0} (before after : K → V) (key : K) (now : V) : Type 0 where
  pub here : after key ≡ now
  pub others : (other : K) → (other ≡ key → ⊥) → after other ≡ before other

-- the list of a pair of keys
abbrev pub list_in : {A B X : Type 0} → (A → A → Ordering) → (B → B → Ordering) → BTreeMap A (Shelf B X) → A → B → List X
list_in outer_compare inner_compare shelves outer inner = option_map_or (λ shelf. list_at inner_compare shelf.queues inner) (get outer_compare shelves outer) []

-- one pair of keys has this list now, and each other pair what it had
pub record ChangesIn {A B X : Type 0} (before after : A → B → List X) (outer : A) (inner : B) (now : List X) : Type 0 where
  pub here : after outer inner ≡ now
  pub beside : (other : B) → (other ≡ inner → ⊥) → after outer other ≡ before outer other
  pub others : (other : A) → (other ≡ outer → ⊥) → (any : B) → after other any ≡ before other any

-- the pair of keys of a value that is placed
abbrev pub place_of : {A B X : Type 0} → Placed A B X → Place A B
place_of item = record { outer = item.outer; inner = item.inner }

-- whether a value is placed at a pair of keys
abbrev pub is_placed : {A B X : Type 0} → (A → A → Ordering) → (B → B → Ordering) → A → B → Placed A B X → Bool
is_placed outer_compare inner_compare outer inner item = is_eq (outer_compare item.outer outer) && is_eq (inner_compare item.inner inner)

-- the values that are placed at a pair of keys, in order
abbrev pub values_at : {A B X : Type 0} → (A → A → Ordering) → (B → B → Ordering) → List (Placed A B X) → A → B → List X
values_at {A} {B} {X} outer_compare inner_compare items outer inner =
    map (λ (item : Placed A B X). item.value) (filter (is_placed outer_compare inner_compare outer inner) items)

-- each pair of keys has, behind what it had before, the values that are placed there
abbrev pub HasBehind : {A B X : Type 0} → (A → A → Ordering) → (B → B → Ordering) → (A → B → List X) → List (Placed A B X) → (A → B → List X) → Type 0
HasBehind {A} {B} outer_compare inner_compare before items after =
    (outer : A) (inner : B) → after outer inner ≡ before outer inner ++ values_at outer_compare inner_compare items outer inner

-- the number of a key; one that is not there has 0
abbrev pub number_at : {K : Type 0} → (K → K → Ordering) → BTreeMap K ℕ → K → ℕ
number_at compare numbers key = unwrap_or (get compare numbers key) 0

-- ---- maps that say the same of each key

-- what a map has at a key, read by a function that also says what a key that is not there has: each entry is read alike in another map
abbrev pub AreReadIn : {K V M : Type 0} → (K → K → Ordering) → (Option V → M) → BTreeMap K V → List (K × V) → Type 0
AreReadIn {K} {V} compare read other entries = AllByRecursion (λ (entry : K × V). read (Some entry.1) ≡ read (get compare other entry.0)) entries

abbrev pub list_of : {X : Type 0} → Option (List X) → List X
list_of list = unwrap_or list []

abbrev pub lists_of : {B X : Type 0} → (B → B → Ordering) → Option (Shelf B X) → B → List X
lists_of {B} {X} compare shelf inner = option_map_or (λ (kept : Shelf B X). list_at compare kept.queues inner) shelf []

-- no entry has a value
abbrev pub AreBlank : {K X : Type 0} → List (K × List X) → Type 0
AreBlank {K} {X} entries = AllByRecursion (λ (entry : K × List X). entry.1 ≡ []) entries
