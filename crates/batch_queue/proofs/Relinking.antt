-- What a change of links makes of the line.
use Rattle.std.proofs.Common.{◌≡◌, ◌∙◌, sym, ap, subst, refl, ℕ, suc, ◌+◌, ◌-◌, ◌<◌, ◌≤◌, ◌⊎◌, inl, inr, Bool, true, false, cond, true≢false, List, [], ◌∷◌, ◌++◌, length, get_or, set, arith, length-append}
use Rattle.std.specs.Prelude.{nat_eq, not, ◌||◌}
use Rattle.std.specs.List.{IsDistinct, AllByRecursion}
use Rattle.std.specs.Cmp.{unsigned_Decides}
use Rattle.std.proofs.lemmas.List.{get_or-set_same, get_or-set_other, get_or_default, get_or_append_left, length-set}
use Rattle.std.proofs.lemmas.List.Folds.{list_any-append}
use Rattle.std.proofs.lemmas.Map.Steps.{length-le_from_distinct_below}
use Rattle.batch_queue.specs.declared.line.Link.{Link}
use Rattle.batch_queue.specs.Lines.{no_link, after, before, in_line, numbers_from, Linked, AreApart, IsLinked, stands, without}
use Rattle.batch_queue.proofs.Linking.{walked, below, last_in, prev_in, next_in, joined, left, framed, differ, IsBeside}

-- ---- numbers that stand apart

apart_all : (n : ℕ) (ns : List ℕ) → stands n ns ≡ false → AllByRecursion (λ y. nat_eq n y ≡ false) ns
apart_all n [] none = tt
apart_all n (m ∷ ns) none = split (nat_eq n m) refl none (apart_all n ns)
  where
    split : (t : Bool) → nat_eq n m ≡ t → (t || stands n ns) ≡ false → (stands n ns ≡ false → AllByRecursion (λ y. nat_eq n y ≡ false) ns) → AllByRecursion (λ y. nat_eq n y ≡ false) (m ∷ ns)
    split true e h more = absurd cc
    split false e h more = (e, more h)

distinct : (ns : List ℕ) → AreApart ns → IsDistinct nat_eq ns
unfolding IsDistinct
distinct [] apart = tt
distinct (n ∷ ns) apart = (apart_all n ns apart.0, distinct ns apart.1)

apart_more : (ns : List ℕ) (i : ℕ) → AreApart ns → stands i ns ≡ false → AreApart (ns ++ i ∷ [])
apart_more [] i apart none = (refl, tt)
apart_more (n ∷ ns) i apart none = split (nat_eq i n) refl none (apart_more ns i apart.1)
  where
    split : (t : Bool) → nat_eq i n ≡ t → (t || stands i ns) ≡ false → (stands i ns ≡ false → AreApart (ns ++ i ∷ [])) → AreApart (n ∷ ns ++ i ∷ [])
    split true e h more = absurd cc
    split false e h more = (list_any-append (nat_eq n) ns (i ∷ []) ∙ ap (λ t. t || (nat_eq n i || false)) apart.0 ∙ ap (λ t. t || false) (turned (nat_eq n i) refl), more h)
      where
        turned : (t : Bool) → nat_eq n i ≡ t → nat_eq n i ≡ false
        turned false k = k
        turned true k = absurd (true≢false (sym ((unsigned_Decides i n).1 (sym ((unsigned_Decides n i).0 k))) ∙ e))

less : (m i : ℕ) (ns : List ℕ) → stands m ns ≡ false → stands m (without i ns) ≡ false
less m i [] none = refl
less m i (n ∷ ns) none = split (nat_eq i n) (nat_eq m n) refl none (less m i ns)
  where
    split : (t u : Bool) → nat_eq m n ≡ u → (u || stands m ns) ≡ false → (stands m ns ≡ false → stands m (without i ns) ≡ false) → stands m (cond (not t) (n ∷ without i ns) (without i ns)) ≡ false
    split true u e h more = more (kept u h)
      where
        kept : (u : Bool) → (u || stands m ns) ≡ false → stands m ns ≡ false
        kept true k = absurd cc
        kept false k = k
    split false true e h more = absurd cc
    split false false e h more = ap (λ t. t || stands m (without i ns)) e ∙ more h

apart_less : (ns : List ℕ) (i : ℕ) → AreApart ns → AreApart (without i ns)
apart_less [] i apart = tt
apart_less (n ∷ ns) i apart = split (nat_eq i n) (apart_less ns i apart.1)
  where
    split : (t : Bool) → AreApart (without i ns) → AreApart (cond (not t) (n ∷ without i ns) (without i ns))
    split true more = more
    split false more = (less n i ns apart.0, more)

-- ---- links that are a line

pub remade : (links : List Link) (ns : List ℕ) → 0 < length links → Linked (after links) (before links) (length links) 0 ns → AreApart ns → IsLinked links × (in_line links ≡ record { size = length links - 1; numbers = ns })
remade links ns some linked apart =
    let few : length ns ≤ length links - 1 = length-le_from_distinct_below ns (length links - 1) (distinct ns apart) (λ q. below (after links) (before links) (length links) ns 0 q linked) in
    let e : numbers_from (length links) (after links) (after links 0) ≡ ns = walked (after links) (before links) (length links) ns (length links) 0 linked (omega (arith, few)) in (
      record {
        ended = some;
        linked = subst (λ xs. Linked (after links) (before links) (length links) 0 xs) (sym e) linked;
        apart = subst AreApart (sym e) apart;
      },
      (λ k. record { size = length links - 1; numbers = e k }),
    )

-- a link that is written
written : (links : List Link) (i : ℕ) (r w : Link) → r ≡ get_or links i r → i < length links → (w.before ≡ r.before) → (y : ℕ) → before (set links i w) y ≡ before links y
written links i r w read room same y = split (nat_eq y i) refl
  where
    split : (t : Bool) → nat_eq y i ≡ t → before (set links i w) y ≡ before links y
    split true e =
        let at : y ≡ i = (unsigned_Decides y i).0 e in
        ap (before (set links i w)) at ∙ ap (λ (l : Link). l.before) (get_or-set_same links i w no_link room) ∙ same ∙ ap (λ (l : Link). l.before) (read ∙ get_or_default links i r no_link room) ∙ ap (before links) (sym at)
    split false e = ap (λ (l : Link). l.before) (get_or-set_other links i y w no_link (λ at. true≢false (sym ((unsigned_Decides y i).1 at) ∙ e)))

written_after : (links : List Link) (i : ℕ) (r w : Link) → r ≡ get_or links i r → i < length links → (w.after ≡ r.after) → (y : ℕ) → after (set links i w) y ≡ after links y
written_after links i r w read room same y = split (nat_eq y i) refl
  where
    split : (t : Bool) → nat_eq y i ≡ t → after (set links i w) y ≡ after links y
    split true e =
        let at : y ≡ i = (unsigned_Decides y i).0 e in
        ap (after (set links i w)) at ∙ ap (λ (l : Link). l.after) (get_or-set_same links i w no_link room) ∙ same ∙ ap (λ (l : Link). l.after) (read ∙ get_or_default links i r no_link room) ∙ ap (after links) (sym at)
    split false e = ap (λ (l : Link). l.after) (get_or-set_other links i y w no_link (λ at. true≢false (sym ((unsigned_Decides y i).1 at) ∙ e)))

after_at : (links : List Link) (i : ℕ) (w : Link) → i < length links → after (set links i w) i ≡ w.after
after_at links i w room = ap (λ (l : Link). l.after) (get_or-set_same links i w no_link room)

after_off : (links : List Link) (i y : ℕ) (w : Link) → (y ≡ i → ⊥) → after (set links i w) y ≡ after links y
after_off links i y w off = ap (λ (l : Link). l.after) (get_or-set_other links i y w no_link off)

before_at : (links : List Link) (i : ℕ) (w : Link) → i < length links → before (set links i w) i ≡ w.before
before_at links i w room = ap (λ (l : Link). l.before) (get_or-set_same links i w no_link room)

before_off : (links : List Link) (i y : ℕ) (w : Link) → (y ≡ i → ⊥) → before (set links i w) y ≡ before links y
before_off links i y w off = ap (λ (l : Link). l.before) (get_or-set_other links i y w no_link off)

read_before : (links : List Link) (i : ℕ) (r : Link) → r ≡ get_or links i r → i < length links → r.before ≡ before links i
read_before links i r read room = ap (λ (l : Link). l.before) (read ∙ get_or_default links i r no_link room)

read_after : (links : List Link) (i : ℕ) (r : Link) → r ≡ get_or links i r → i < length links → r.after ≡ after links i
read_after links i r read room = ap (λ (l : Link). l.after) (read ∙ get_or_default links i r no_link room)

-- the link before link 0 is one
pub last_room : (links : List Link) → IsLinked links → before links 0 < length links
last_room links l = split (in_line links).numbers l.linked
  where
    split : (ns : List ℕ) → Linked (after links) (before links) (length links) 0 ns → before links 0 < length links
    split [] linked = let e : before links 0 ≡ 0 = linked.1 in omega (arith, e, l.ended)
    split (n ∷ ns) linked =
        let end = last_in (after links) (before links) (length links) n ns 0 linked in
        let e : before links 0 ≡ suc end.0 = end.1 in
        let h : end.0 < length links - 1 = below (after links) (before links) (length links) (n ∷ ns) 0 end.0 linked end.2 in
        omega (arith, e, h)

beside_0 : (ns : List ℕ) → IsBeside 0 ns
beside_0 ns m s e = omega (arith, e)

pub join_is : (links : List Link) (i j : ℕ) (r1 r2 r3 : Link) → j ≡ suc i → IsLinked links → i < length links - 1 → stands i (in_line links).numbers ≡ false
    → r1 ≡ get_or links 0 r1
    → r2 ≡ get_or (set links j (record { before = r1.before; after = 0 })) r1.before r2
    → r3 ≡ get_or (set (set links j (record { before = r1.before; after = 0 })) r1.before (record { before = r2.before; after = j })) 0 r3
    → IsLinked (set (set (set links j (record { before = r1.before; after = 0 })) r1.before (record { before = r2.before; after = j })) 0 (record { before = j; after = r3.after }))
    × (in_line (set (set (set links j (record { before = r1.before; after = 0 })) r1.before (record { before = r2.before; after = j })) 0 (record { before = j; after = r3.after }))
    ≡ record { size = length links - 1; numbers = (in_line links).numbers ++ i ∷ [] })
join_is links i j r1 r2 r3 jis l room none e1 e2 e3 =
    let ns = (in_line links).numbers in
    let l1 : List Link = set links j (record { before = r1.before; after = 0 }) in
    let l2 : List Link = set l1 r1.before (record { before = r2.before; after = j }) in
    let l3 : List Link = set l2 0 (record { before = j; after = r3.after }) in
    let size1 : length l1 ≡ length links = length-set links j _ in
    let size2 : length l2 ≡ length links = length-set l1 r1.before _ ∙ size1 in
    let size3 : length l3 ≡ length links = length-set l2 0 _ ∙ size2 in
    let some = l.ended in
    let q : r1.before ≡ before links 0 = read_before links 0 r1 e1 some in
    let q_room : r1.before < length links = let h = last_room links l in omega (arith, q, h) in
    let q_room1 : r1.before < length l1 = omega (arith, q_room, size1) in
    let room2 : 0 < length l2 = omega (arith, some, size2) in
    let room0 : j < length links = omega (arith, room, jis) in
    let nexts3 : (y : ℕ) → after l3 y ≡ after l2 y = written_after l2 0 r3 (record { before = j; after = r3.after }) e3 room2 refl in
    let lasts2 : (y : ℕ) → before l2 y ≡ before l1 y = written l1 r1.before r2 (record { before = r2.before; after = j }) e2 q_room1 refl in
    let apart_q : suc i ≡ r1.before → ⊥ = λ e. not_last links l i none (e ∙ q) in
    let next_off : (y : ℕ) → (y ≡ before links 0 → ⊥) → (y ≡ suc i → ⊥) → after l3 y ≡ after links y =
    λ y a b. nexts3 y ∙ after_off l1 r1.before y _ (λ e. a (e ∙ q)) ∙ after_off links j y _ (λ e. b (e ∙ jis)) in
    let next_q : after l3 (before links 0) ≡ suc i = ap (after l3) (sym q) ∙ nexts3 r1.before ∙ after_at l1 r1.before _ q_room1 ∙ jis in
    let next_i : after l3 (suc i) ≡ 0 = nexts3 (suc i) ∙ after_off l1 r1.before (suc i) _ apart_q ∙ ap (after l1) (sym jis) ∙ after_at links j _ room0 in
    let last_off : (y : ℕ) → (y ≡ 0 → ⊥) → (y ≡ suc i → ⊥) → before l3 y ≡ before links y =
    λ y a b. before_off l2 0 y _ a ∙ lasts2 y ∙ before_off links j y _ (λ e. b (e ∙ jis)) in
    let last_i : before l3 (suc i) ≡ before links 0 = before_off l2 0 (suc i) _ (λ e. omega (arith, e)) ∙ lasts2 (suc i) ∙ ap (before l1) (sym jis) ∙ before_at links j _ room0 ∙ q in
    let last_0 : before l3 0 ≡ suc i = before_at l2 0 _ room2 ∙ jis in
    let chain : Linked (after l3) (before l3) (length links) 0 (ns ++ i ∷ []) =
    joined (after links) (before links) (after l3) (before l3) (length links) i ns 0 l.linked l.apart (beside_0 ns) none (λ e. omega (arith, e)) (omega (arith, room)) next_off next_q next_i last_off last_i last_0 in
    let chain3 : Linked (after l3) (before l3) (length l3) 0 (ns ++ i ∷ []) = subst (λ n. Linked (after l3) (before l3) n 0 (ns ++ i ∷ [])) (sym size3) chain in
    let made = remade l3 (ns ++ i ∷ []) (omega (arith, some, size3)) chain3 (apart_more ns i l.apart none) in
    (made.0, made.1 ∙ (λ k. record { size = size3 k - 1; numbers = ns ++ i ∷ [] }))
  where
    not_last : (links : List Link) → IsLinked links → (i : ℕ) → stands i (in_line links).numbers ≡ false → suc i ≡ before links 0 → ⊥
    not_last links l i none e = split (in_line links).numbers l.linked none
      where
        split : (ns : List ℕ) → Linked (after links) (before links) (length links) 0 ns → stands i ns ≡ false → ⊥
        split [] linked none = let no : suc i ≡ 0 = e ∙ linked.1 in omega (arith, no)
        split (n ∷ ns) linked none =
            let end = last_in (after links) (before links) (length links) n ns 0 linked in
            let at : suc end.0 ≡ suc i = sym (e ∙ end.1) in
            differ end.0 i (n ∷ ns) end.2 none (omega (arith, at))

-- a number in line has a link, and so have its neighbours
pub in_room : (links : List Link) (i : ℕ) → IsLinked links → stands i (in_line links).numbers ≡ true → suc i < length links
in_room links i l h = let k = below (after links) (before links) (length links) (in_line links).numbers 0 i l.linked h in omega (arith, k)

pub next_room : (links : List Link) (i : ℕ) → IsLinked links → stands i (in_line links).numbers ≡ true → after links (suc i) < length links
next_room links i l h = split (next_in (after links) (before links) (length links) i (in_line links).numbers 0 l.linked h)
  where
    split : (after links (suc i) ≡ 0) ⊎ ((m : ℕ) × (after links (suc i) ≡ suc m) × (stands m (in_line links).numbers ≡ true)) → after links (suc i) < length links
    split (inl e) = let k = l.ended in omega (arith, e, k)
    split (inr found) = let e = found.1 in let k = in_room links found.0 l found.2 in omega (arith, e, k)

pub prev_room : (links : List Link) (i : ℕ) → IsLinked links → stands i (in_line links).numbers ≡ true → before links (suc i) < length links
prev_room links i l h = split (in_line links).numbers l.linked h
  where
    of_tail : (n : ℕ) (ns : List ℕ) → Linked (after links) (before links) (length links) 0 (n ∷ ns) → stands i ns ≡ true → before links (suc i) < length links
    of_tail n ns linked s =
        let found = prev_in (after links) (before links) (length links) i ns n linked.3 s in
        let e = found.1 in
        let k = below (after links) (before links) (length links) (n ∷ ns) 0 found.0 linked found.2 in
        omega (arith, e, k)

    at_test : (n : ℕ) (ns : List ℕ) → Linked (after links) (before links) (length links) 0 (n ∷ ns) → (t : Bool) → nat_eq i n ≡ t → (t || stands i ns) ≡ true → before links (suc i) < length links
    at_test n ns linked true e s =
        let same : i ≡ n = (unsigned_Decides i n).0 e in
        let first : before links (suc i) ≡ 0 = ap (λ y. before links (suc y)) same ∙ linked.1 in
        let k = l.ended in
        omega (arith, first, k)
    at_test n ns linked false e s = of_tail n ns linked s

    split : (ns : List ℕ) → Linked (after links) (before links) (length links) 0 ns → stands i ns ≡ true → before links (suc i) < length links
    split [] linked s = absurd cc
    split (n ∷ ns) linked s = at_test n ns linked (nat_eq i n) refl s

pub leave_is : (links : List Link) (i j : ℕ) (r r2 r3 : Link) → j ≡ suc i → IsLinked links → stands i (in_line links).numbers ≡ true
    → r ≡ get_or links j r
    → r2 ≡ get_or links r.before r2
    → r3 ≡ get_or (set links r.before (record { before = r2.before; after = r.after })) r.after r3
    → IsLinked (set (set links r.before (record { before = r2.before; after = r.after })) r.after (record { before = r.before; after = r3.after }))
    × (in_line (set (set links r.before (record { before = r2.before; after = r.after })) r.after (record { before = r.before; after = r3.after }))
    ≡ record { size = length links - 1; numbers = without i (in_line links).numbers })
leave_is links i j r r2 r3 jis l h e1 e2 e3 =
    let ns = (in_line links).numbers in
    let l1 : List Link = set links r.before (record { before = r2.before; after = r.after }) in
    let l2 : List Link = set l1 r.after (record { before = r.before; after = r3.after }) in
    let size1 : length l1 ≡ length links = length-set links r.before _ in
    let size2 : length l2 ≡ length links = length-set l1 r.after _ ∙ size1 in
    let some = l.ended in
    let room : j < length links = let k = in_room links i l h in omega (arith, k, jis) in
    let p : r.before ≡ before links (suc i) = read_before links j r e1 room ∙ ap (before links) jis in
    let a : r.after ≡ after links (suc i) = read_after links j r e1 room ∙ ap (after links) jis in
    let p_room : r.before < length links = let k = prev_room links i l h in omega (arith, p, k) in
    let a_room : r.after < length l1 = let k = next_room links i l h in omega (arith, a, k, size1) in
    let nexts2 : (y : ℕ) → after l2 y ≡ after l1 y = written_after l1 r.after r3 (record { before = r.before; after = r3.after }) e3 a_room refl in
    let lasts1 : (y : ℕ) → before l1 y ≡ before links y = written links r.before r2 (record { before = r2.before; after = r.after }) e2 p_room refl in
    let next_off : (y : ℕ) → (y ≡ before links (suc i) → ⊥) → after l2 y ≡ after links y = λ y no. nexts2 y ∙ after_off links r.before y _ (λ e. no (e ∙ p)) in
    let next_p : after l2 (before links (suc i)) ≡ after links (suc i) = ap (after l2) (sym p) ∙ nexts2 r.before ∙ after_at links r.before _ p_room ∙ a in
    let last_off : (y : ℕ) → (y ≡ after links (suc i) → ⊥) → before l2 y ≡ before links y = λ y no. before_off l1 r.after y _ (λ e. no (e ∙ a)) ∙ lasts1 y in
    let last_a : before l2 (after links (suc i)) ≡ before links (suc i) = ap (before l2) (sym a) ∙ before_at l1 r.after _ a_room ∙ p in
    let chain : Linked (after l2) (before l2) (length links) 0 (without i ns) =
    left (after links) (before links) (after l2) (before l2) (length links) i ns 0 l.linked l.apart (beside_0 ns) h next_off next_p last_off last_a in
    let chain2 : Linked (after l2) (before l2) (length l2) 0 (without i ns) = subst (λ n. Linked (after l2) (before l2) n 0 (without i ns)) (sym size2) chain in
    let made = remade l2 (without i ns) (omega (arith, some, size2)) chain2 (apart_less ns i l.apart) in
    (made.0, made.1 ∙ (λ k. record { size = size2 k - 1; numbers = without i ns }))

-- one link more
wider : (next last : ℕ → ℕ) (less more : ℕ) (ns : List ℕ) (at : ℕ) → less ≤ more → Linked next last less at ns → Linked next last more at ns
wider next last less more [] at h linked = linked
wider next last less more (n ∷ ns) at h linked = (linked.0, linked.1, (let k = linked.2 in omega (arith, h, k)), wider next last less more ns (suc n) h linked.3)

pub grow_is : (links : List Link) (w : Link) → IsLinked links → IsLinked (links ++ w ∷ []) × (in_line (links ++ w ∷ []) ≡ record { size = length links - 1 + 1; numbers = (in_line links).numbers })
grow_is links w l =
    let ns = (in_line links).numbers in
    let more : List Link = links ++ w ∷ [] in
    let some = l.ended in
    let size : length more ≡ length links + 1 = length-append links (w ∷ []) in
    let nexts : (y : ℕ) → y < length links → after more y ≡ after links y = λ y k. ap (λ (x : Link). x.after) (get_or_append_left links (w ∷ []) no_link y k) in
    let lasts : (y : ℕ) → y < length links → before more y ≡ before links y = λ y k. ap (λ (x : Link). x.before) (get_or_append_left links (w ∷ []) no_link y k) in
    let chain : Linked (after more) (before more) (length links) 0 ns =
    framed (after links) (before links) (after more) (before more) (length links) ns 0 l.linked (nexts 0 some) (λ m s. (nexts (suc m) (in_room links m l s), lasts (suc m) (in_room links m l s))) (lasts 0 some) in
    let made = remade more ns (omega (arith, size)) (wider (after more) (before more) (length links) (length more) ns 0 (omega (arith, size)) chain) l.apart in
    let counted : length more - 1 ≡ length links - 1 + 1 = omega (arith, size, some) in
    (made.0, made.1 ∙ (λ k. record { size = counted k; numbers = ns }))
