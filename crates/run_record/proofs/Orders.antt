-- Two lists that a stable sort may give of one list are one.
use Rattle.std.proofs.Common.{◌≡◌, ◌∙◌, sym, ap, refl, ℕ, ◌<◌, ◌≤◌, suc, List, [], ◌∷◌, ◌++◌, Bool, true, false, true≢false, cond, not, filter, length, get_or, arith, append_assoc, append-nil}
use Rattle.std.specs.Prelude.{◌&&◌, ◌||◌, nat_lt, nat_eq, flat_map}
use Rattle.std.specs.List.{AllByRecursion}
use Rattle.std.specs.List.Sorted.{IsSortedBy, IsStableBy, ties}
use Rattle.std.specs.Cmp.{IsStrictWeakOrder}
use Rattle.std.specs.Ordering.{is_lt, nat_cmp, ordering_then}
use Rattle.std.specs.declared.cmp.Ordering.TheVariants.{Less, Equal, Greater}
use Rattle.std.proofs.lemmas.List.Sorted.{sorted_far}
use Rattle.std.proofs.lemmas.List.Elements.{recursion_from_All, filter-append}
use Rattle.run_record.specs.declared.entry.Entry.{Entry}
use Rattle.run_record.specs.Record.{key_before, placed, merged_behind, merged}

module _ {X : Type 0} (lt : X → X → Bool) (weak : IsStrictWeakOrder lt) where
  -- no element is less than one before it
  pub Ascends : List X → Type 0
  Ascends [] = Unit {0}
  Ascends (x ∷ xs) = AllByRecursion (λ y. lt y x ≡ false) xs × Ascends xs

  ascends_from : (xs : List X) → ((i j : ℕ) (d : X) → i ≤ j → j < length xs → lt (get_or xs j d) (get_or xs i d) ≡ false) → Ascends xs
  unfolding Ascends
  ascends_from [] far = tt
  ascends_from (x ∷ xs) far = (
    recursion_from_All (λ y. lt y x ≡ false) xs (λ k d inside. far 0 (suc k) d (omega arith) (omega arith)),
    ascends_from xs (λ i j d le inside. far (suc i) (suc j) d (omega arith) (omega arith)),
  )

  itself : (x : X) → lt x x ≡ false
  itself x = go (lt x x) refl
    where
      go : (b : Bool) → lt x x ≡ b → b ≡ false
      go false e = refl
      go true e = sym e ∙ weak.one_way x x e

  tie_itself : (x : X) → ties lt x x ≡ true
  tie_itself x = λ i. not (itself x i) && not (itself x i)

  left_of : (a b : Bool) → (not a && not b) ≡ true → a ≡ false
  left_of false b e = refl
  left_of true b e = absurd cc

  right_of : (a b : Bool) → (not a && not b) ≡ true → b ≡ false
  right_of a false e = refl
  right_of false true e = absurd cc
  right_of true true e = absurd cc

  tie_from : (x y : X) → lt x y ≡ false → lt y x ≡ false → ties lt x y ≡ true
  tie_from x y e f = λ i. not (e i) && not (f i)

  -- something in xs ties with z, and nothing there is less than y: so z is not less than y
  not_less : (y z : X) (xs : List X) → AllByRecursion (λ w. lt w y ≡ false) xs → (filter (ties lt z) xs ≡ [] → ⊥) → lt z y ≡ false
  not_less y z [] all some = absurd (some refl)
  not_less y z (w ∷ xs) all some = go (not_less y z xs all.1) (ties lt z w) refl
    where
      go : ((filter (ties lt z) xs ≡ [] → ⊥) → lt z y ≡ false) → (b : Bool) → ties lt z w ≡ b → lt z y ≡ false
      go rest true e = weak.chain z w y (left_of (lt z w) (lt w z) e) all.0
      go rest false e = rest (λ none. some (ap (λ b. cond b (w ∷ filter (ties lt z) xs) (filter (ties lt z) xs)) e ∙ none))

  heads : (b : Bool) (x y : X) (xs ys : List X) → b ≡ true → cond b (x ∷ xs) xs ≡ cond b (y ∷ ys) ys → x ≡ y
  heads true x y xs ys t e = cc
  heads false x y xs ys t e = absurd cc

  tails : (b : Bool) (x : X) (xs ys : List X) → cond b (x ∷ xs) xs ≡ cond b (x ∷ ys) ys → xs ≡ ys
  tails true x xs ys e = cc
  tails false x xs ys e = e

  pub one_order : (xs ys : List X) → Ascends xs → Ascends ys → ((x : X) → filter (ties lt x) xs ≡ filter (ties lt x) ys) → xs ≡ ys
  unfolding Ascends
  one_order [] [] a b same = refl
  one_order [] (y ∷ ys) a b same = absurd (let e = same y ∙ ap (λ b. cond b (y ∷ filter (ties lt y) ys) (filter (ties lt y) ys)) (tie_itself y) in cc)
  one_order (x ∷ xs) [] a b same = absurd (let e = sym (same x) ∙ ap (λ b. cond b (x ∷ filter (ties lt x) xs) (filter (ties lt x) xs)) (tie_itself x) in cc)
  one_order (x ∷ xs) (y ∷ ys) a b same =
      let x_not : lt y x ≡ false = not_less x y (x ∷ xs) (itself x, a.0) (λ none. let e = sym none ∙ same y ∙ ap (λ b. cond b (y ∷ filter (ties lt y) ys) (filter (ties lt y) ys)) (tie_itself y) in absurd cc) in
      let y_not : lt x y ≡ false = not_less y x (y ∷ ys) (itself y, b.0) (λ none. let e = sym none ∙ sym (same x) ∙ ap (λ b. cond b (x ∷ filter (ties lt x) xs) (filter (ties lt x) xs)) (tie_itself x) in absurd cc) in
      let first : x ≡ y = heads true x y (filter (ties lt x) xs) (filter (ties lt x) ys) refl (sym (ap (λ b. cond b (x ∷ filter (ties lt x) xs) (filter (ties lt x) xs)) (tie_itself x)) ∙ same x ∙ ap (λ b. cond b (y ∷ filter (ties lt x) ys) (filter (ties lt x) ys)) (tie_from x y y_not x_not)) in
      let rest = one_order xs ys a.1 b.1 (λ z. tails (ties lt z x) x (filter (ties lt z) xs) (filter (ties lt z) ys) (same z ∙ (λ i. cond (ties lt z (sym first i)) (sym first i ∷ filter (ties lt z) ys) (filter (ties lt z) ys)))) in
      λ i. first i ∷ rest i

-- ---- entries in order of their keys

module _ (lt : Entry → Entry → Bool) (weak : IsStrictWeakOrder lt) (same : (x y : Entry) → key_before x y ≡ lt x y) where
  -- all are above what is less than one that none is less than
  above : (entry other : Entry) (xs : List Entry) → lt entry other ≡ true → AllByRecursion (λ y. lt y other ≡ false) xs → AllByRecursion (λ y. lt entry y ≡ true) xs
  above entry other [] e all = tt
  above entry other (x ∷ xs) e all = (go (lt entry x) refl, above entry other xs e all.1)
    where
      go : (b : Bool) → lt entry x ≡ b → b ≡ true
      go true f = refl
      go false f = absurd (true≢false (sym e ∙ weak.chain entry x other f all.0))

  not_below : (entry : Entry) (xs : List Entry) → AllByRecursion (λ y. lt entry y ≡ true) xs → AllByRecursion (λ y. lt y entry ≡ false) xs
  not_below entry [] all = tt
  not_below entry (x ∷ xs) all = (weak.one_way entry x all.0, not_below entry xs all.1)

  all_placed : (P : Entry → Type 0) (entry : Entry) (xs : List Entry) → P entry → AllByRecursion P xs → AllByRecursion P (placed entry xs)
  all_placed P entry [] p all = (p, tt)
  all_placed P entry (x ∷ xs) p all = go (key_before entry x) (all_placed P entry xs p all.1)
    where
      go : (b : Bool) → AllByRecursion P (placed entry xs) → AllByRecursion P (cond b (entry ∷ x ∷ xs) (x ∷ placed entry xs))
      go true rest = (p, all)
      go false rest = (all.0, rest)

  ascends_placed : (entry : Entry) (xs : List Entry) → Ascends lt weak xs → Ascends lt weak (placed entry xs)
  unfolding Ascends
  ascends_placed entry [] a = (tt, tt)
  ascends_placed entry (x ∷ xs) a = go (key_before entry x) (same entry x) (ascends_placed entry xs a.1)
    where
      go : (b : Bool) → b ≡ lt entry x → Ascends lt weak (placed entry xs) → Ascends lt weak (cond b (entry ∷ x ∷ xs) (x ∷ placed entry xs))
      go true e rest = ((weak.one_way entry x (sym e), not_below entry xs (above entry x xs (sym e) a.0)), a)
      go false e rest = (all_placed (λ y. lt y x ≡ false) entry xs (sym e) a.0, rest)

  -- none of those above an entry ties with what ties with the entry
  none_tie : (z entry : Entry) (xs : List Entry) → ties lt z entry ≡ true → AllByRecursion (λ y. lt entry y ≡ true) xs → filter (ties lt z) xs ≡ []
  none_tie z entry [] t all = refl
  none_tie z entry (x ∷ xs) t all = go (none_tie z entry xs t all.1) (ties lt z x) refl
    where
      go : filter (ties lt z) xs ≡ [] → (b : Bool) → ties lt z x ≡ b → cond b (x ∷ filter (ties lt z) xs) (filter (ties lt z) xs) ≡ []
      go rest false e = rest
      go rest true e = absurd (true≢false (sym all.0 ∙ weak.chain entry z x (right_of lt weak (lt z entry) (lt entry z) t) (left_of lt weak (lt z x) (lt x z) e)))

  stable_placed : (z entry : Entry) (xs : List Entry) → Ascends lt weak xs → filter (ties lt z) (placed entry xs) ≡ filter (ties lt z) (xs ++ entry ∷ [])
  unfolding Ascends
  stable_placed z entry [] a = refl
  stable_placed z entry (x ∷ xs) a = go (key_before entry x) (same entry x) (stable_placed z entry xs a.1)
    where
      front : (t : Bool) → ties lt z entry ≡ t → lt entry x ≡ true → cond t (entry ∷ filter (ties lt z) (x ∷ xs)) (filter (ties lt z) (x ∷ xs)) ≡ filter (ties lt z) (x ∷ xs) ++ cond t (entry ∷ []) []
      front false t e = sym (append-nil (filter (ties lt z) (x ∷ xs)))
      front true t e = let none = none_tie z entry (x ∷ xs) t (e, above entry x xs e a.0) in (λ i. entry ∷ none i) ∙ (λ i. sym none i ++ entry ∷ [])

      go : (b : Bool) → b ≡ lt entry x → filter (ties lt z) (placed entry xs) ≡ filter (ties lt z) (xs ++ entry ∷ []) → filter (ties lt z) (cond b (entry ∷ x ∷ xs) (x ∷ placed entry xs)) ≡ filter (ties lt z) (x ∷ (xs ++ entry ∷ []))
      go true e rest = front (ties lt z entry) refl (sym e) ∙ sym (filter-append (ties lt z) (x ∷ xs) (entry ∷ []))
      go false e rest = ap (λ ys. cond (ties lt z x) (x ∷ ys) ys) rest

  ascends_behind : (front xs : List Entry) → Ascends lt weak front → Ascends lt weak (merged_behind front xs)
  ascends_behind front [] a = a
  ascends_behind front (x ∷ xs) a = ascends_behind (placed x front) xs (ascends_placed x front a)

  stable_behind : (z : Entry) (front xs : List Entry) → Ascends lt weak front → filter (ties lt z) (merged_behind front xs) ≡ filter (ties lt z) (front ++ xs)
  stable_behind z front [] a = ap (filter (ties lt z)) (sym (append-nil front))
  stable_behind z front (x ∷ xs) a =
      stable_behind z (placed x front) xs (ascends_placed x front a)
      ∙ filter-append (ties lt z) (placed x front) xs
      ∙ ap (λ ys. ys ++ filter (ties lt z) xs) (stable_placed z x front a)
      ∙ sym (filter-append (ties lt z) (front ++ x ∷ []) xs)
      ∙ ap (filter (ties lt z)) (append_assoc front (x ∷ []) xs)

  -- what a stable sort gives of the joined lists
  pub sorted_is : (lists : List (List Entry)) (all sorted : List Entry) → all ≡ flat_map (λ entries. entries) lists → IsSortedBy lt sorted → IsStableBy lt all sorted → sorted ≡ merged lists
  unfolding merged Ascends
  sorted_is lists all sorted joined ascends stable =
      one_order lt weak sorted (merged_behind [] (flat_map (λ entries. entries) lists))
      (ascends_from lt weak sorted (sorted_far lt weak sorted ascends))
      (ascends_behind [] (flat_map (λ entries. entries) lists) tt)
      (λ z. stable z ∙ ap (filter (ties lt z)) joined ∙ sym (stable_behind z [] (flat_map (λ entries. entries) lists) tt))

-- ---- the order of keys

lexicographic : (a b c d e f : ℕ) → (nat_lt a b || (nat_eq a b && (nat_lt c d || (nat_eq c d && nat_lt e f)))) ≡ is_lt (ordering_then (nat_cmp a b) (ordering_then (nat_cmp c d) (nat_cmp e f)))
lexicographic a b c d e f = both (nat_lt a b) (nat_eq a b) (nat_lt c d) (nat_eq c d) (nat_lt e f) (nat_eq e f)
  where
    both : (l m n o p q : Bool) → (l || (m && (n || (o && p)))) ≡ is_lt (ordering_then (cond l Less (cond m Equal Greater)) (ordering_then (cond n Less (cond o Equal Greater)) (cond p Less (cond q Equal Greater))))
    both true m n o p q = refl
    both false false n o p q = refl
    both false true true o p q = refl
    both false true false false p q = refl
    both false true false true true q = refl
    both false true false true false true = refl
    both false true false true false false = refl

pub keys_same : (x y : Entry) → key_before x y ≡ is_lt (ordering_then (nat_cmp x.leg y.leg) (ordering_then (nat_cmp x.stamp y.stamp) (nat_cmp x.node y.node)))
keys_same x y = lexicographic x.leg y.leg x.stamp y.stamp x.node y.node
