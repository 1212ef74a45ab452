-- Parts of a list, each under a key: what a filter finds in all of them, and in which order they stand.
use Rattle.std.proofs.Common.{◌≡◌, ◌∙◌, sym, ap, subst, refl, ℕ, zero, suc, ◌+◌, ◌<◌, Bool, true, false, cond, List, [], ◌∷◌, ◌++◌, length, map, filter, flat_map, get_or, Some, arith}
use Rattle.std.specs.List.{AllByRecursion}
use Rattle.std.specs.List.Sorted.{IsSortedBy}
use Rattle.std.specs.Cmp.{IsStrictWeakOrder}
use Rattle.std.specs.Map.{lookup}
use Rattle.std.specs.Option.{option_map_or}
use Rattle.std.proofs.lemmas.Map.{NonePasses}
use Rattle.std.proofs.lemmas.List.Elements.{filter-append}
use Rattle.std.proofs.lemmas.List.Sorted.{sorted_far}

-- ---- a filter

filter_alike : {L : Type 0} (p : L → Bool) (t : Bool) (ls : List L) → AllByRecursion (λ l. p l ≡ t) ls → filter p ls ≡ cond t ls []
filter_alike p true [] h = refl
filter_alike p false [] h = refl
filter_alike p true (l ∷ ls) h = ap (λ b. cond b (l ∷ filter p ls) (filter p ls)) h.0 ∙ ap (λ rest. l ∷ rest) (filter_alike p true ls h.1)
filter_alike p false (l ∷ ls) h = ap (λ b. cond b (l ∷ filter p ls) (filter p ls)) h.0 ∙ filter_alike p false ls h.1

-- the test passes at one key at most
abbrev pub PassesOnce : {K X : Type 0} → (K → Bool) → List (K × X) → Type 0
PassesOnce test [] = Unit {0}
PassesOnce test (e ∷ es) = (test e.0 ≡ true → NonePasses test es) × PassesOnce test es

module _ {K X L : Type 0} (test : K → Bool) (part : X → List L) (p : L → Bool) where
  -- an item passes exactly where its key does
  abbrev pub IsByKey : K × X → Type 0
  IsByKey e = AllByRecursion (λ l. p l ≡ test e.0) (part e.1)

  none_found : (es : List (K × X)) → NonePasses test es → AllByRecursion IsByKey es → filter p (flat_map (λ (e : K × X). part e.1) es) ≡ []
  none_found [] none h = refl
  none_found (e ∷ es) none h =
      filter-append p (part e.1) (flat_map (λ (e : K × X). part e.1) es)
      ∙ (λ i. filter_alike p (test e.0) (part e.1) h.0 i ++ none_found es none.1 h.1 i)
      ∙ ap (λ t. cond t (part e.1) [] ++ []) none.0

  append_none : (xs : List L) → xs ++ [] ≡ xs
  append_none [] = refl
  append_none (x ∷ xs) = ap (λ rest. x ∷ rest) (append_none xs)

  pub one_found : (es : List (K × X)) → PassesOnce test es → AllByRecursion IsByKey es → filter p (flat_map (λ (e : K × X). part e.1) es) ≡ option_map_or part (lookup test es) []
  one_found [] once h = refl
  one_found (e ∷ es) once h =
      filter-append p (part e.1) (flat_map (λ (e : K × X). part e.1) es)
      ∙ ap (λ first. first ++ filter p (flat_map (λ (e : K × X). part e.1) es)) (filter_alike p (test e.0) (part e.1) h.0)
      ∙ split (test e.0) refl (one_found es once.1 h.1)
    where
      split : (t : Bool) → test e.0 ≡ t → filter p (flat_map (λ (e : K × X). part e.1) es) ≡ option_map_or part (lookup test es) []
          → cond t (part e.1) [] ++ filter p (flat_map (λ (e : K × X). part e.1) es) ≡ option_map_or part (cond t (Some e.1) (lookup test es)) []
      split true e' more = ap (λ rest. part e.1 ++ rest) (none_found es (once.0 e') h.1) ∙ append_none (part e.1)
      split false e' more = more

-- ---- the order

-- each item is at least as great as those before it
abbrev pub Rises : {X : Type 0} → (X → X → Bool) → List X → Type 0
Rises lt [] = Unit {0}
Rises lt (x ∷ xs) = AllByRecursion (λ y. lt y x ≡ false) xs × Rises lt xs

all_joined : {X : Type 0} (P : X → Type 0) (xs ys : List X) → AllByRecursion P xs → AllByRecursion P ys → AllByRecursion P (xs ++ ys)
all_joined P [] ys h k = k
all_joined P (x ∷ xs) ys h k = (h.0, all_joined P xs ys h.1 k)

by_places : {X : Type 0} (P : X → Type 0) (xs : List X) → ((k : ℕ) (d : X) → k < length xs → P (get_or xs k d)) → AllByRecursion P xs
by_places P [] h = tt
by_places P (x ∷ xs) h = (h 0 x (omega arith), by_places P xs (λ k d l. h (suc k) d (omega arith)))

plus_one : (k : ℕ) → k + 1 ≡ suc k
plus_one k = omega arith

sorted_rest : {X : Type 0} (lt : X → X → Bool) (x : X) (xs : List X) → IsSortedBy lt (x ∷ xs) → IsSortedBy lt xs
sorted_rest lt x xs up k d low high =
    subst (λ n. lt (get_or xs n d) (get_or xs k d) ≡ false) (sym (plus_one k))
    (subst (λ n. lt (get_or (x ∷ xs) n d) (get_or (x ∷ xs) (suc k) d) ≡ false) (plus_one (suc k)) (up (suc k) d (omega arith) (omega arith)))

pub rises_sorted : {X : Type 0} (lt : X → X → Bool) → IsStrictWeakOrder lt → (xs : List X) → IsSortedBy lt xs → Rises lt xs
rises_sorted lt order [] up = tt
rises_sorted lt order (x ∷ xs) up =
    (by_places (λ y. lt y x ≡ false) xs (λ k d l. sorted_far lt order (x ∷ xs) up 0 (suc k) d (omega arith) (omega arith)), rises_sorted lt order xs (sorted_rest lt x xs up))

module _ {X K : Type 0} (key : X → K) (lt : K → K → Bool) where
  pub rises_mapped : (xs : List X) → Rises lt (map key xs) → Rises (λ x y. lt (key x) (key y)) xs
  rises_mapped [] h = tt
  rises_mapped (x ∷ xs) h = (back xs h.0, rises_mapped xs h.1)
    where
      back : (ys : List X) → AllByRecursion (λ k. lt k (key x) ≡ false) (map key ys) → AllByRecursion (λ y. lt (key y) (key x) ≡ false) ys
      back [] h = tt
      back (y ∷ ys) h = (h.0, back ys h.1)

  pub mapped_rises : (xs : List X) → Rises (λ x y. lt (key x) (key y)) xs → Rises lt (map key xs)
  mapped_rises [] h = tt
  mapped_rises (x ∷ xs) h = (forth xs h.0, mapped_rises xs h.1)
    where
      forth : (ys : List X) → AllByRecursion (λ y. lt (key y) (key x) ≡ false) ys → AllByRecursion (λ k. lt k (key x) ≡ false) (map key ys)
      forth [] h = tt
      forth (y ∷ ys) h = (h.0, forth ys h.1)

pub sorted_rises : {X : Type 0} (lt : X → X → Bool) (xs : List X) → Rises lt xs → IsSortedBy lt xs
sorted_rises lt [] h k d low high = absurd (omega arith)
sorted_rises lt (x ∷ []) h k d low high = absurd (omega arith)
sorted_rises lt (x ∷ y ∷ xs) h zero d low high = h.0.0
sorted_rises lt (x ∷ y ∷ xs) h (suc k) d low high =
    subst (λ n. lt (get_or (x ∷ y ∷ xs) n d) (get_or (y ∷ xs) k d) ≡ false) (sym (plus_one (suc k)))
    (subst (λ n. lt (get_or (y ∷ xs) n d) (get_or (y ∷ xs) k d) ≡ false) (plus_one k) (sorted_rises lt (y ∷ xs) h.1 k d (omega arith) (omega arith)))

module _ {E L K : Type 0} (lt : K → K → Bool) (order : IsStrictWeakOrder lt) (key : E → K) (part : E → List L) (own : L → K) where
  abbrev pub HasKey : E → Type 0
  HasKey e = AllByRecursion (λ l. own l ≡ key e) (part e)

  self_not_below : (k : K) → lt k k ≡ false
  self_not_below k = split (lt k k) refl
    where
      split : (t : Bool) → lt k k ≡ t → lt k k ≡ false
      split true e = order.one_way k k e
      split false e = e

  of_key : (k : K) (ls : List L) (j : K) → AllByRecursion (λ l. own l ≡ k) ls → lt k j ≡ false → AllByRecursion (λ l. lt (own l) j ≡ false) ls
  of_key k [] j h below = tt
  of_key k (l ∷ ls) j h below = (subst (λ x. lt x j ≡ false) (sym h.0) below, of_key k ls j h.1 below)

  not_below : (j : K) (es : List E) → AllByRecursion (λ e. lt (key e) j ≡ false) es → AllByRecursion HasKey es → AllByRecursion (λ l. lt (own l) j ≡ false) (flat_map part es)
  not_below j [] h own_all = tt
  not_below j (e ∷ es) h own_all = all_joined (λ l. lt (own l) j ≡ false) (part e) (flat_map part es) (of_key (key e) (part e) j own_all.0 h.0) (not_below j es h.1 own_all.1)

  in_front : (k : K) (ls rest : List L) → AllByRecursion (λ l. own l ≡ k) ls → AllByRecursion (λ l. lt (own l) k ≡ false) rest → Rises (λ x y. lt (own x) (own y)) rest → Rises (λ x y. lt (own x) (own y)) (ls ++ rest)
  in_front k [] rest same above up = up
  in_front k (l ∷ ls) rest same above up = (
    subst (λ j. AllByRecursion (λ y. lt (own y) j ≡ false) (ls ++ rest)) (sym same.0) (all_joined (λ y. lt (own y) k ≡ false) ls rest (of_key k ls k same.1 (self_not_below k)) above),
    in_front k ls rest same.1 above up,
  )

  pub parts_rise : (es : List E) → Rises (λ x y. lt (key x) (key y)) es → AllByRecursion HasKey es → Rises (λ x y. lt (own x) (own y)) (flat_map part es)
  parts_rise [] up h = tt
  parts_rise (e ∷ es) up h = in_front (key e) (part e) (flat_map part es) h.0 (not_below (key e) es up.0 h.1) (parts_rise es up.1 h.1)
