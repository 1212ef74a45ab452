-- Delays that are sorted by their numbers.
use Rattle.std.proofs.Common.{◌≡◌, ◌≢◌, ℕ, zero, suc, ◌<◌, ◌≤◌, nat_lt, nat_eq, Bool, true, false, if◌then◌else◌, List, [], ◌∷◌, length, get_or, ◌⊎◌, inl, inr, Contains, IsPermutation, refl, sym, ap, subst, ◌∙◌, arith}
use Rattle.std.proofs.lemmas.List.Sorted.{Contains-permutation, IsPermutation-sym}
use Rattle.std.proofs.lemmas.Map.Keys.{IsDistinct-IsPermutation}
use Rattle.std.proofs.lemmas.Bool.{eqb-false}
use Rattle.std.specs.Cmp.{nat_eq_equiv, unsigned_Decides}
use Rattle.std.specs.List.{AllByRecursion, IsDistinct}
use Rattle.std.specs.List.Sorted.{IsNonDecreasingBy}
use Rattle.delayed_messages.specs.declared.queue.Numbered.{Numbered}
use Rattle.delayed_messages.specs.Queue.{ComesBefore, IsQueue, filed, by_number}
use Rattle.delayed_messages.proofs.Orders.{Up, up-by_number}

-- ---- what a list has

abbrev In : Numbered → List Numbered → Type 0
In z [] = ⊥
In z (x ∷ xs) = (z ≡ x) ⊎ In z xs

in-contains : (z : Numbered) (xs : List Numbered) → In z xs → Contains xs z
in-contains z [] there = absurd there
in-contains z (x ∷ xs) (inl e) = (0, omega arith, sym e)
in-contains z (x ∷ xs) (inr more) = let c = in-contains z xs more in (suc c.0, omega (arith, c.1), c.2)

contains-in : (z : Numbered) (xs : List Numbered) (k : ℕ) → k < length xs → get_or xs k z ≡ z → In z xs
contains-in z [] k lies is = absurd (omega (arith, lies))
contains-in z (x ∷ xs) zero lies is = inl (sym is)
contains-in z (x ∷ xs) (suc k) lies is = inr (contains-in z xs k (omega (arith, lies)) is)

in-filed : (z x : Numbered) (ys : List Numbered) → (z ≡ x) ⊎ In z ys → In z (filed x ys)
in-filed z x [] there = there
in-filed z x (y ∷ ys) there = by (nat_lt x.number y.number) there (in-filed z x ys)
  where
    by : (first : Bool) → (z ≡ x) ⊎ ((z ≡ y) ⊎ In z ys) → ((z ≡ x) ⊎ In z ys → In z (filed x ys)) → In z (if first then x ∷ y ∷ ys else y ∷ filed x ys)
    by true t more = t
    by false (inl e) more = inr (more (inl e))
    by false (inr (inl e)) more = inl e
    by false (inr (inr t)) more = inr (more (inr t))

from-filed : (z x : Numbered) (ys : List Numbered) → In z (filed x ys) → (z ≡ x) ⊎ In z ys
from-filed z x [] there = there
from-filed z x (y ∷ ys) there = by (nat_lt x.number y.number) there (from-filed z x ys)
  where
    by : (first : Bool) → In z (if first then x ∷ y ∷ ys else y ∷ filed x ys) → (In z (filed x ys) → (z ≡ x) ⊎ In z ys) → (z ≡ x) ⊎ ((z ≡ y) ⊎ In z ys)
    by true t more = t
    by false (inl e) more = inr (inl e)
    by false (inr t) more = elim (more t) [ inl e ↦ inl e | inr s ↦ inr (inr s) ]

in-by_number : (z : Numbered) (xs : List Numbered) → In z xs → In z (by_number xs)
in-by_number z [] there = absurd there
in-by_number z (x ∷ xs) (inl e) = in-filed z x (by_number xs) (inl e)
in-by_number z (x ∷ xs) (inr there) = in-filed z x (by_number xs) (inr (in-by_number z xs there))

from-by_number : (z : Numbered) (xs : List Numbered) → In z (by_number xs) → In z xs
from-by_number z [] there = there
from-by_number z (x ∷ xs) there = elim (from-filed z x (by_number xs) there) [ inl e ↦ inl e | inr t ↦ inr (from-by_number z xs t) ]

-- ---- lists with the same elements, both strictly rising

above : (P : Numbered → Type 0) (z : Numbered) (xs : List Numbered) → AllByRecursion P xs → In z xs → P z
above P z [] all there = absurd there
above P z (x ∷ xs) all (inl e) = subst P (sym e) all.0
above P z (x ∷ xs) all (inr there) = above P z xs all.1 there

same-elements : (xs ys : List Numbered) → Up xs → Up ys → ((z : Numbered) → In z xs → In z ys) → ((z : Numbered) → In z ys → In z xs) → xs ≡ ys
same-elements [] [] up down to fro = refl
same-elements [] (y ∷ ys) up down to fro = absurd (fro y (inl refl))
same-elements (x ∷ xs) [] up down to fro = absurd (to x (inl refl))
same-elements (x ∷ xs) (y ∷ ys) up down to fro =
    let head : x ≡ y = heads (to x (inl refl)) (fro y (inl refl)) in
    let tail = same-elements xs ys up.1 down.1 (λ z t. forth z t (to z (inr t)) head) (λ z t. back z t (fro z (inr t)) head) in
    λ i. head i ∷ tail i
  where
    heads : (x ≡ y) ⊎ In x ys → (y ≡ x) ⊎ In y xs → x ≡ y
    heads (inl e) there = e
    heads (inr t) (inl e) = sym e
    heads (inr t) (inr s) = absurd (omega (arith, above (λ z. y.number < z.number) x ys down.0 t, above (λ z. x.number < z.number) y xs up.0 s))

    forth : (z : Numbered) → In z xs → (z ≡ y) ⊎ In z ys → x ≡ y → In z ys
    forth z t (inl e) head = let less = above (λ w. x.number < w.number) z xs up.0 t in let n : z.number ≡ x.number = ap (λ (w : Numbered). w.number) (e ∙ sym head) in absurd (omega (arith, less, n))
    forth z t (inr s) head = s

    back : (z : Numbered) → In z ys → (z ≡ x) ⊎ In z xs → x ≡ y → In z xs
    back z t (inl e) head = let less = above (λ w. y.number < w.number) z ys down.0 t in let n : z.number ≡ y.number = ap (λ (w : Numbered). w.number) (e ∙ head) in absurd (omega (arith, less, n))
    back z t (inr s) head = s

-- ---- a sort

differ : (m n : ℕ) (same : Bool) → nat_eq m n ≡ same → m ≢ n → same ≡ false
differ m n false e apart = refl
differ m n true e apart = absurd (apart ((unsigned_Decides m n).0 e))

numbers-apart : (xs : List Numbered) → IsQueue xs → IsDistinct (λ (a b : Numbered). nat_eq a.number b.number) xs
unfolding IsDistinct
numbers-apart [] queue = tt
numbers-apart (x ∷ xs) queue = (others xs queue.0, numbers-apart xs queue.1)
  where
    others : (ys : List Numbered) → AllByRecursion (ComesBefore x) ys → AllByRecursion (λ y. nat_eq x.number y.number ≡ false) ys
    others [] all = tt
    others (y ∷ ys) all = (differ x.number y.number (nat_eq x.number y.number) refl all.0.1, others ys all.1)

up-from : (xs : List Numbered) → IsNonDecreasingBy (λ (x : Numbered). x.number) xs → IsDistinct (λ (a b : Numbered). nat_eq a.number b.number) xs → Up xs
unfolding IsDistinct
up-from [] rise apart = tt
up-from (x ∷ xs) rise apart = (others xs (λ k d lies. rise 0 (suc k) d (omega arith) (omega (arith, lies))) apart.0, up-from xs (λ i j d up lies. rise (suc i) (suc j) d (omega (arith, up)) (omega (arith, lies))) apart.1)
  where
    others : (ys : List Numbered) → ((k : ℕ) (d : Numbered) → k < length ys → x.number ≤ (get_or ys k d).number) → AllByRecursion (λ y. nat_eq x.number y.number ≡ false) ys → AllByRecursion (λ y. x.number < y.number) ys
    others [] low apart = tt
    others (y ∷ ys) low apart = (omega (arith, low 0 x (omega arith), eqb-false x.number y.number apart.0), others ys (λ k d lies. low (suc k) d (omega (arith, lies))) apart.1)

pub sorted-is : (queue sorted : List Numbered) → IsQueue queue → IsPermutation queue sorted → IsNonDecreasingBy (λ (x : Numbered). x.number) sorted → sorted ≡ by_number queue
sorted-is queue sorted good moved rise =
    let apart = IsDistinct-IsPermutation (λ (a b : Numbered). nat_eq a.number b.number) (λ a b. nat_eq_equiv.symm a.number b.number) queue sorted moved (numbers-apart queue good) in
    same-elements sorted (by_number queue) (up-from sorted rise apart) (up-by_number queue good)
    (λ z t. let c = Contains-permutation sorted queue z (IsPermutation-sym queue sorted moved) (in-contains z sorted t) in in-by_number z queue (contains-in z queue c.0 c.1 c.2))
    (λ z t. let c = Contains-permutation queue sorted z moved (in-contains z queue (from-by_number z queue t)) in contains-in z sorted c.0 c.1 c.2)
