-- Links in both directions: what joining and leaving make of the line.
use Rattle.std.proofs.Common.{◌≡◌, ◌∙◌, sym, ap, subst, refl, ℕ, zero, suc, ◌+◌, ◌-◌, ◌<◌, ◌≤◌, ◌⊎◌, inl, inr, Bool, true, false, cond, true≢false, List, [], ◌∷◌, ◌++◌, length, arith}
use Rattle.std.specs.Prelude.{nat_eq, not, ◌||◌}
use Rattle.std.specs.Cmp.{unsigned_Decides}
use Rattle.batch_queue.specs.Lines.{numbers_from, Linked, AreApart, stands, without}

itself : (n : ℕ) → nat_eq n n ≡ true
itself n = (unsigned_Decides n n).1 refl

or_left : (a b : Bool) → a ≡ true → (a || b) ≡ true
or_left true b e = refl
or_left false b e = absurd cc

or_right : (a b : Bool) → b ≡ true → (a || b) ≡ true
or_right true b e = refl
or_right false b e = e

or_none : (a b : Bool) → (a || b) ≡ false → (a ≡ false) × (b ≡ false)
or_none false b e = (refl, e)
or_none true b e = absurd cc

pub at_head : (n : ℕ) (ns : List ℕ) → stands n (n ∷ ns) ≡ true
at_head n ns = or_left (nat_eq n n) (stands n ns) (itself n)

pub in_tail : (m n : ℕ) (ns : List ℕ) → stands m ns ≡ true → stands m (n ∷ ns) ≡ true
in_tail m n ns h = or_right (nat_eq m n) (stands m ns) h

-- one number is in line, and another is not: they differ
pub differ : (m n : ℕ) (ns : List ℕ) → stands m ns ≡ true → stands n ns ≡ false → m ≡ n → ⊥
differ m n ns h none e = true≢false (sym (subst (λ x. stands x ns ≡ true) e h) ∙ none)

pub without_none : (n : ℕ) (ns : List ℕ) → stands n ns ≡ false → without n ns ≡ ns
without_none n [] none = refl
without_none n (m ∷ ns) none =
    let parts = or_none (nat_eq n m) (stands n ns) none in
    ap (λ t. cond (not t) (m ∷ without n ns) (without n ns)) parts.0 ∙ ap (λ xs. m ∷ xs) (without_none n ns parts.1)

module _ (next last : ℕ → ℕ) (links : ℕ) where
  -- the walk gives the line
  pub walked : (ns : List ℕ) (more at : ℕ) → Linked next last links at ns → length ns ≤ more → numbers_from more next (next at) ≡ ns
  walked [] zero at linked enough = refl
  walked [] (suc more) at linked enough = ap (numbers_from (suc more) next) linked.0
  walked (n ∷ ns) zero at linked enough = absurd (omega (arith, enough))
  walked (n ∷ ns) (suc more) at linked enough =
      ap (numbers_from (suc more) next) linked.0 ∙ ap (λ xs. n ∷ xs) (walked ns more (suc n) linked.3 (omega (arith, enough)))

  -- each number in line has a link
  pub below : (ns : List ℕ) (at m : ℕ) → Linked next last links at ns → stands m ns ≡ true → m < links - 1
  below [] at m linked h = absurd cc
  below (n ∷ ns) at m linked h = below_at (nat_eq m n) refl (below ns (suc n) m linked.3)
    where
      below_at : (t : Bool) → nat_eq m n ≡ t → (stands m ns ≡ true → m < links - 1) → m < links - 1
      below_at true e more = let same : m ≡ n = (unsigned_Decides m n).0 e in omega (arith, same, linked.2)
      below_at false e more = more (sym (ap (λ t. t || stands m ns) e) ∙ h)

  -- the last number in line
  pub last_in : (n : ℕ) (ns : List ℕ) (at : ℕ) → Linked next last links at (n ∷ ns) → (m : ℕ) × (last 0 ≡ suc m) × (stands m (n ∷ ns) ≡ true)
  last_in n [] at linked = (n, linked.3.1, at_head n [])
  last_in n (m ∷ ns) at linked = let found = last_in m ns (suc n) linked.3 in (found.0, found.1, in_tail found.0 n (m ∷ ns) found.2)

  -- what stands in front of a number in line
  pub prev_in : (i : ℕ) (ns : List ℕ) (n : ℕ) → Linked next last links (suc n) ns → stands i ns ≡ true → (m : ℕ) × (last (suc i) ≡ suc m) × (stands m (n ∷ ns) ≡ true)
  prev_in i [] n linked h = absurd cc
  prev_in i (x ∷ xs) n linked h = prev_at (nat_eq i x) refl (prev_in i xs x linked.3)
    where
      prev_at : (t : Bool) → nat_eq i x ≡ t → (stands i xs ≡ true → (m : ℕ) × (last (suc i) ≡ suc m) × (stands m (x ∷ xs) ≡ true)) → (m : ℕ) × (last (suc i) ≡ suc m) × (stands m (n ∷ x ∷ xs) ≡ true)
      prev_at true e more = (n, ap (λ y. last (suc y)) ((unsigned_Decides i x).0 e) ∙ linked.1, at_head n (x ∷ xs))
      prev_at false e more =
          let found = more (sym (ap (λ t. t || stands i xs) e) ∙ h) in
          (found.0, found.1, in_tail found.0 n (x ∷ xs) found.2)

  -- what stands behind a number in line
  pub next_in : (i : ℕ) (ns : List ℕ) (at : ℕ) → Linked next last links at ns → stands i ns ≡ true → (next (suc i) ≡ 0) ⊎ ((m : ℕ) × (next (suc i) ≡ suc m) × (stands m ns ≡ true))
  next_in i [] at linked h = absurd cc
  next_in i (x ∷ xs) at linked h = next_at (nat_eq i x) refl (next_in i xs (suc x) linked.3)
    where
      behind : (ys : List ℕ) → Linked next last links (suc x) ys → (next (suc x) ≡ 0) ⊎ ((m : ℕ) × (next (suc x) ≡ suc m) × (stands m (x ∷ ys) ≡ true))
      behind [] l = inl l.0
      behind (y ∷ ys) l = inr (y, l.0, in_tail y x (y ∷ ys) (at_head y ys))

      lifted : (next (suc i) ≡ 0) ⊎ ((m : ℕ) × (next (suc i) ≡ suc m) × (stands m xs ≡ true)) → (next (suc i) ≡ 0) ⊎ ((m : ℕ) × (next (suc i) ≡ suc m) × (stands m (x ∷ xs) ≡ true))
      lifted (inl e) = inl e
      lifted (inr found) = inr (found.0, found.1, in_tail found.0 x xs found.2)

      next_at : (t : Bool) → nat_eq i x ≡ t → (stands i xs ≡ true → (next (suc i) ≡ 0) ⊎ ((m : ℕ) × (next (suc i) ≡ suc m) × (stands m xs ≡ true))) → (next (suc i) ≡ 0) ⊎ ((m : ℕ) × (next (suc i) ≡ suc m) × (stands m (x ∷ xs) ≡ true))
      next_at true e more =
          let P : ℕ → Type 0 = λ y. (next (suc y) ≡ 0) ⊎ ((m : ℕ) × (next (suc y) ≡ suc m) × (stands m (x ∷ xs) ≡ true)) in
          subst P (sym ((unsigned_Decides i x).0 e)) (behind xs linked.3)
      next_at false e more = lifted (more (sym (ap (λ t. t || stands i xs) e) ∙ h))

-- no number of the line has the link `at`
abbrev pub IsBeside : ℕ → List ℕ → Type 0
IsBeside at ns = (m : ℕ) → stands m ns ≡ true → suc m ≡ at → ⊥

apart_beside : (n : ℕ) (ns : List ℕ) → stands n ns ≡ false → IsBeside (suc n) ns
apart_beside n ns none m h e = differ m n ns h none (omega (arith, e))

module _ (next last next' last' : ℕ → ℕ) (links : ℕ) where
  -- links that a change leaves alone
  pub framed : (ns : List ℕ) (at : ℕ) → Linked next last links at ns → next' at ≡ next at → ((m : ℕ) → stands m ns ≡ true → (next' (suc m) ≡ next (suc m)) × (last' (suc m) ≡ last (suc m))) → last' 0 ≡ last 0 → Linked next' last' links at ns
  framed [] at linked en h el = (en ∙ linked.0, el ∙ linked.1)
  framed (n ∷ ns) at linked en h el = (
    en ∙ linked.0,
    (h n (at_head n ns)).1 ∙ linked.1,
    linked.2,
    framed ns (suc n) linked.3 (h n (at_head n ns)).0 (λ m s. h m (in_tail m n ns s)) el,
  )

  pub joined : (i : ℕ) (ns : List ℕ) (at : ℕ) → Linked next last links at ns → AreApart ns → IsBeside at ns → stands i ns ≡ false → (at ≡ suc i → ⊥) → i + 1 < links
      → ((y : ℕ) → (y ≡ last 0 → ⊥) → (y ≡ suc i → ⊥) → next' y ≡ next y) → next' (last 0) ≡ suc i → next' (suc i) ≡ 0
      → ((y : ℕ) → (y ≡ 0 → ⊥) → (y ≡ suc i → ⊥) → last' y ≡ last y) → last' (suc i) ≡ last 0 → last' 0 ≡ suc i
      → Linked next' last' links at (ns ++ i ∷ [])
  joined i [] at linked apart beside none other room nexts next_last next_i lasts last_i last_0 = (
    ap next' (sym linked.1) ∙ next_last,
    last_i ∙ linked.1,
    room,
    (next_i, last_0),
  )
  joined i (n ∷ ns) at linked apart beside none other room nexts next_last next_i lasts last_i last_0 =
      let end = last_in next last links n ns at linked in
      let parts = or_none (nat_eq i n) (stands i ns) none in
      let apart_n : suc n ≡ suc i → ⊥ = λ e. true≢false (sym ((unsigned_Decides i n).1 (omega (arith, e))) ∙ parts.0) in (
        nexts at (λ e. beside end.0 end.2 (sym end.1 ∙ sym e)) other ∙ linked.0,
        lasts (suc n) (λ e. omega (arith, e)) apart_n ∙ linked.1,
        linked.2,
        joined i ns (suc n) linked.3 apart.1 (apart_beside n ns apart.0) parts.1 apart_n room nexts next_last next_i lasts last_i last_0,
      )

  pub left : (i : ℕ) (ns : List ℕ) (at : ℕ) → Linked next last links at ns → AreApart ns → IsBeside at ns → stands i ns ≡ true
      → ((y : ℕ) → (y ≡ last (suc i) → ⊥) → next' y ≡ next y) → next' (last (suc i)) ≡ next (suc i)
      → ((y : ℕ) → (y ≡ next (suc i) → ⊥) → last' y ≡ last y) → last' (next (suc i)) ≡ last (suc i)
      → Linked next' last' links at (without i ns)
  left i [] at linked apart beside h nexts next_last lasts last_next = absurd cc
  left i (n ∷ ns) at linked apart beside h nexts next_last lasts last_next = left_at (nat_eq i n) refl (left i ns (suc n))
    where
      gone : (same : i ≡ n) (xs : List ℕ) → Linked next last links (suc n) xs → AreApart xs → IsBeside at xs → Linked next' last' links at xs
      gone same [] l a s =
          let prev : last (suc i) ≡ at = ap (λ y. last (suc y)) same ∙ linked.1 in
          let behind : next (suc i) ≡ 0 = ap (λ y. next (suc y)) same ∙ l.0 in
          (ap next' (sym prev) ∙ next_last ∙ behind, ap last' (sym behind) ∙ last_next ∙ prev)
      gone same (m ∷ ms) l a s =
          let prev : last (suc i) ≡ at = ap (λ y. last (suc y)) same ∙ linked.1 in
          let behind : next (suc i) ≡ suc m = ap (λ y. next (suc y)) same ∙ l.0 in (
            ap next' (sym prev) ∙ next_last ∙ behind,
            ap last' (sym behind) ∙ last_next ∙ prev,
            l.2,
            framed ms (suc m) l.3
                (nexts (suc m) (λ e. s m (at_head m ms) (e ∙ prev)))
                (λ j in_ms. (
                  nexts (suc j) (λ e. s j (in_tail j m ms in_ms) (e ∙ prev)),
                  lasts (suc j) (λ e. apart_beside m ms a.0 j in_ms (e ∙ behind)),
                ))
                (lasts 0 (λ e. let no : 0 ≡ suc m = e ∙ behind in omega (arith, no))),
          )

      left_at : (t : Bool) → nat_eq i n ≡ t
          → (Linked next last links (suc n) ns → AreApart ns → IsBeside (suc n) ns → stands i ns ≡ true
          → ((y : ℕ) → (y ≡ last (suc i) → ⊥) → next' y ≡ next y) → next' (last (suc i)) ≡ next (suc i)
          → ((y : ℕ) → (y ≡ next (suc i) → ⊥) → last' y ≡ last y) → last' (next (suc i)) ≡ last (suc i)
          → Linked next' last' links (suc n) (without i ns))
          → Linked next' last' links at (without i (n ∷ ns))
      left_at true e more =
          let same : i ≡ n = (unsigned_Decides i n).0 e in
          let none : stands i ns ≡ false = ap (λ y. stands y ns) same ∙ apart.0 in
          let rest : without i (n ∷ ns) ≡ ns = ap (λ t. cond (not t) (n ∷ without i ns) (without i ns)) e ∙ without_none i ns none in
          subst (λ xs. Linked next' last' links at xs) (sym rest) (gone same ns linked.3 apart.1 (λ m s. beside m (in_tail m n ns s)))
      left_at false e more =
          let here : stands i ns ≡ true = sym (ap (λ t. t || stands i ns) e) ∙ h in
          let prev = prev_in next last links i ns n linked.3 here in
          let rest : without i (n ∷ ns) ≡ n ∷ without i ns = ap (λ t. cond (not t) (n ∷ without i ns) (without i ns)) e in
          subst (λ xs. Linked next' last' links at xs) (sym rest) (
            nexts at (λ eq. beside prev.0 prev.2 (sym prev.1 ∙ sym eq)) ∙ linked.0,
            lasts (suc n) (not_next (next_in next last links i ns (suc n) linked.3 here)) ∙ linked.1,
            linked.2,
            more linked.3 apart.1 (apart_beside n ns apart.0) here nexts next_last lasts last_next,
          )
        where
          not_next : (next (suc i) ≡ 0) ⊎ ((m : ℕ) × (next (suc i) ≡ suc m) × (stands m ns ≡ true)) → suc n ≡ next (suc i) → ⊥
          not_next (inl none) eq = let no : suc n ≡ 0 = eq ∙ none in omega (arith, no)
          not_next (inr found) eq = apart_beside n ns apart.0 found.0 found.2 (sym (eq ∙ found.1))
