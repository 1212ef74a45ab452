-- Values that are placed, and taken away again.
use Rattle.std.proofs.Common.{◌≡◌, ◌∙◌, sym, ap, subst, refl, ℕ, ◌+◌, ◌-◌, ◌<◌, ◌≤◌, ◌⊎◌, inl, inr, List, [], ◌∷◌, ◌++◌, Bool, true, false, true≢false, cond, map, filter, take, length, get_or, arith, append_assoc, append-nil, length-append, take_at}
use Rattle.std.specs.Prelude.{◌&&◌}
use Rattle.std.specs.Cmp.{IsTotalOrder, eq_by_cmp_equiv}
use Rattle.std.specs.declared.cmp.Ordering.{Ordering}
use Rattle.std.specs.Ordering.{is_eq}
use Rattle.std.proofs.lemmas.List.{map-append, take_more, length-map, get_or-map}
use Rattle.std.proofs.lemmas.List.Elements.{filter-append}
use Rattle.std.proofs.lemmas.Map.Views.{tells_apart}
use Rattle.keyed_queues.specs.Queues.{AreExact, ChangesIn, place_of, is_placed, values_at, HasBehind}
use Rattle.keyed_queues.specs.declared.shelves.Place.{Place}
use Rattle.keyed_queues.specs.declared.shelves.Placed.{Placed}

not_key : {K : Type 0} {R : K → K → Ordering} → IsTotalOrder R → (key other : K) → is_eq (R key other) ≡ false → other ≡ key → ⊥
not_key {K} {R} total key other e same = true≢false (sym (subst (λ x. is_eq (R x other) ≡ true) same ((eq_by_cmp_equiv total).refl other)) ∙ e)

-- the value behind the first n that are placed
last_of : {A B X : Type 0} (n : ℕ) (items : List (Placed A B X)) → n < length items → (item : Placed A B X) × (take (n + 1) items ≡ take n items ++ item ∷ []) × ((d : Place A B) → place_of item ≡ get_or (map place_of items) n d)
last_of n [] h = absurd (omega arith)
last_of n (x ∷ xs) h = (get_or (x ∷ xs) n x, take_more (x ∷ xs) n x h, λ d. sym (get_or-map place_of (x ∷ xs) n x d h))

module _ {A B X : Type 0} {R : A → A → Ordering} {S : B → B → Ordering} (total_outer : IsTotalOrder R) (total_inner : IsTotalOrder S) (exact_outer : AreExact R) (exact_inner : AreExact S) where
  pub values_at-append : (xs ys : List (Placed A B X)) (a : A) (b : B) → values_at R S (xs ++ ys) a b ≡ values_at R S xs a b ++ values_at R S ys a b
  values_at-append xs ys a b =
      ap (map (λ (item : Placed A B X). item.value)) (filter-append (is_placed R S a b) xs ys)
      ∙ map-append (λ (item : Placed A B X). item.value) (filter (is_placed R S a b) xs) (filter (is_placed R S a b) ys)

  -- at a pair: it is the changed one, or it keeps what it had
  at_pair : (outer : A) (inner : B) (before after : A → B → List X) (now : List X) → ChangesIn before after outer inner now → (a : A) (b : B) → (((is_eq (R outer a) && is_eq (S inner b)) ≡ true) × (after a b ≡ now) × (before outer inner ≡ before a b)) ⊎ (((is_eq (R outer a) && is_eq (S inner b)) ≡ false) × (after a b ≡ before a b))
  at_pair outer inner before after now changes a b = by_outer (is_eq (R outer a)) (is_eq (S inner b)) refl refl
    where
      by_outer : (x y : Bool) → is_eq (R outer a) ≡ x → is_eq (S inner b) ≡ y → (((x && y) ≡ true) × (after a b ≡ now) × (before outer inner ≡ before a b)) ⊎ (((x && y) ≡ false) × (after a b ≡ before a b))
      by_outer false y e f = inr (refl, changes.others a (not_key total_outer outer a e) b)
      by_outer true true e f =
          let p : outer ≡ a = tells_apart exact_outer outer a e in
          let q : inner ≡ b = tells_apart exact_inner inner b f in
          inl (refl, sym (λ i. after (p i) (q i)) ∙ changes.here, λ i. before (p i) (q i))
      by_outer true false e f =
          let p : outer ≡ a = tells_apart exact_outer outer a e in
          inr (refl, sym (λ i. after (p i) b) ∙ changes.beside b (not_key total_inner inner b f) ∙ (λ i. before (p i) b))

  -- a value that is added at its pair
  pub pushed : (before after : A → B → List X) (item : Placed A B X) → ChangesIn before after item.outer item.inner (before item.outer item.inner ++ item.value ∷ []) → HasBehind R S before (item ∷ []) after
  pushed before after item changes a b = go (at_pair item.outer item.inner before after (before item.outer item.inner ++ item.value ∷ []) changes a b)
    where
      go : (((is_eq (R item.outer a) && is_eq (S item.inner b)) ≡ true) × (after a b ≡ before item.outer item.inner ++ item.value ∷ []) × (before item.outer item.inner ≡ before a b)) ⊎ (((is_eq (R item.outer a) && is_eq (S item.inner b)) ≡ false) × (after a b ≡ before a b)) → after a b ≡ before a b ++ map (λ (item : Placed A B X). item.value) (cond (is_eq (R item.outer a) && is_eq (S item.inner b)) (item ∷ []) [])
      go (inl (t, e, f)) = e ∙ ap (λ xs. xs ++ item.value ∷ []) f ∙ sym (ap (λ x. before a b ++ map (λ (item : Placed A B X). item.value) (cond x (item ∷ []) [])) t)
      go (inr (t, e)) = e ∙ sym (append-nil (before a b)) ∙ sym (ap (λ x. before a b ++ map (λ (item : Placed A B X). item.value) (cond x (item ∷ []) [])) t)

  without_last : (xs : List X) (x : X) → take (length (xs ++ x ∷ []) - 1) (xs ++ x ∷ []) ≡ xs
  without_last xs x = take_at xs (x ∷ []) (length (xs ++ x ∷ []) - 1) (omega (arith, length-append xs (x ∷ [])))

  -- the last value that was added is taken away
  pub dropped : (base before after : A → B → List X) (items : List (Placed A B X)) (item : Placed A B X) → HasBehind R S base (items ++ item ∷ []) before → ChangesIn before after item.outer item.inner (take (length (before item.outer item.inner) - 1) (before item.outer item.inner)) → HasBehind R S base items after
  dropped base before after items item has changes a b = go (at_pair item.outer item.inner before after (take (length (before item.outer item.inner) - 1) (before item.outer item.inner)) changes a b)
    where
      had : before a b ≡ (base a b ++ values_at R S items a b) ++ map (λ (item : Placed A B X). item.value) (cond (is_eq (R item.outer a) && is_eq (S item.inner b)) (item ∷ []) [])
      had = has a b ∙ ap (λ xs. base a b ++ xs) (values_at-append items (item ∷ []) a b) ∙ sym (append_assoc (base a b) (values_at R S items a b) (values_at R S (item ∷ []) a b))

      had_at : (t : Bool) → (is_eq (R item.outer a) && is_eq (S item.inner b)) ≡ t → before a b ≡ (base a b ++ values_at R S items a b) ++ map (λ (item : Placed A B X). item.value) (cond t (item ∷ []) [])
      had_at t e = had ∙ ap (λ x. (base a b ++ values_at R S items a b) ++ map (λ (item : Placed A B X). item.value) (cond x (item ∷ []) [])) e

      go : (((is_eq (R item.outer a) && is_eq (S item.inner b)) ≡ true) × (after a b ≡ take (length (before item.outer item.inner) - 1) (before item.outer item.inner)) × (before item.outer item.inner ≡ before a b)) ⊎ (((is_eq (R item.outer a) && is_eq (S item.inner b)) ≡ false) × (after a b ≡ before a b)) → after a b ≡ base a b ++ values_at R S items a b
      go (inl (t, e, f)) = e ∙ ap (λ xs. take (length xs - 1) xs) (f ∙ had_at true t) ∙ without_last (base a b ++ values_at R S items a b) item.value
      go (inr (t, e)) = e ∙ had_at false t ∙ append-nil (base a b ++ values_at R S items a b)

  -- one more behind those that were added
  pub more_behind : (base before after : A → B → List X) (xs ys : List (Placed A B X)) → HasBehind R S base xs before → HasBehind R S before ys after → HasBehind R S base (xs ++ ys) after
  more_behind base before after xs ys h k a b =
      k a b ∙ ap (λ zs. zs ++ values_at R S ys a b) (h a b) ∙ append_assoc (base a b) (values_at R S xs a b) (values_at R S ys a b) ∙ sym (ap (λ zs. base a b ++ zs) (values_at-append xs ys a b))

  -- one value fewer of those that were added
  pub withdrawn_one : (base before after : A → B → List X) (items : List (Placed A B X)) (places : List (Place A B)) (gone : ℕ) (place : Place A B) → gone < length places → map place_of items ≡ places → HasBehind R S base (take (length items - gone) items) before → place ≡ get_or places (length places - 1 - gone) place → ChangesIn before after place.outer place.inner (take (length (before place.outer place.inner) - 1) (before place.outer place.inner)) → HasBehind R S base (take (length items - (gone + 1)) items) after
  withdrawn_one base before after items places gone place inside same has at changes =
      let long : length places ≡ length items = ap length (sym same) ∙ length-map items place_of in
      let n = length items - (gone + 1) in
      let last = last_of n items (omega arith) in
      let count : length items - gone ≡ n + 1 = omega arith in
      let here : HasBehind R S base (take n items ++ last.0 ∷ []) before = subst (λ xs. HasBehind R S base xs before) (ap (λ k. take k items) count ∙ last.1) has in
      let index : length places - 1 - gone ≡ n = omega arith in
      let which : place ≡ place_of last.0 = at ∙ ap (λ k. get_or places k place) index ∙ ap (λ ps. get_or ps n place) (sym same) ∙ sym (last.2 place) in
      let P : Place A B → Type 0 = λ p. ChangesIn before after p.outer p.inner (take (length (before p.outer p.inner) - 1) (before p.outer p.inner)) in
      dropped base before after (take n items) last.0 here (subst P which changes)

  pub withdrawn_all : (base after : A → B → List X) (items : List (Placed A B X)) (places : List (Place A B)) (gone : ℕ) → length places ≤ gone → map place_of items ≡ places → HasBehind R S base (take (length items - gone) items) after → (a : A) (b : B) → after a b ≡ base a b
  withdrawn_all base after items places gone all same has a b =
      let long : length places ≡ length items = ap length (sym same) ∙ length-map items place_of in
      let none : length items - gone ≡ 0 = omega arith in
      has a b ∙ ap (λ k. base a b ++ values_at R S (take k items) a b) none ∙ append-nil (base a b)
