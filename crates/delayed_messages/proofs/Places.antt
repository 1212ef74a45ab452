-- Where a delay is put.
use Rattle.std.proofs.Common.{◌≡◌, ℕ, zero, suc, ◌<◌, ◌≤◌, nat_le, true, false, List, [], ◌∷◌, take, drop, length, get_or, arith}
use Rattle.std.proofs.lemmas.Bool.{leb-true, leb-false, le-leb}
use Rattle.std.specs.List.{AllByRecursion}
use Rattle.std.specs.List.Sorted.{IsPartitionedBy, IsPartitionPoint}
use Rattle.delayed_messages.specs.declared.queue.Numbered.{Numbered}
use Rattle.delayed_messages.specs.Queue.{ComesBefore, IsQueue, IsPlace}

later : (x : Numbered) (xs : List Numbered) → AllByRecursion (ComesBefore x) xs → (j : ℕ) (d : Numbered) → j < length xs → x.delay.due ≤ (get_or xs j d).delay.due
later x [] all j d lies = absurd (omega (arith, lies))
later x (y ∷ ys) all zero d lies = all.0.0
later x (y ∷ ys) all (suc j) d lies = later x ys all.1 j d (omega (arith, lies))

rises : (xs : List Numbered) → IsQueue xs → (i j : ℕ) (d : Numbered) → i ≤ j → j < length xs → (get_or xs i d).delay.due ≤ (get_or xs j d).delay.due
rises [] queue i j d up lies = absurd (omega (arith, lies))
rises (x ∷ xs) queue zero zero d up lies = omega arith
rises (x ∷ xs) queue zero (suc j) d up lies = later x xs queue.0 j d (omega (arith, lies))
rises (x ∷ xs) queue (suc i) zero d up lies = absurd (omega (arith, up))
rises (x ∷ xs) queue (suc i) (suc j) d up lies = rises xs queue.1 i j d (omega (arith, up)) (omega (arith, lies))

pub parted : (due : ℕ) (xs : List Numbered) → IsQueue xs → IsPartitionedBy (λ kept. nat_le kept.delay.due due) xs
parted due xs queue i j d up lies passes = le-leb (get_or xs i d).delay.due due (omega (arith, rises xs queue i j d up lies, leb-true (get_or xs j d).delay.due due passes))

in-front : (P : Numbered → Type 0) (xs : List Numbered) (i : ℕ) → ((k : ℕ) (d : Numbered) → k < i → k < length xs → P (get_or xs k d)) → AllByRecursion P (take i xs)
in-front P [] zero each = tt
in-front P [] (suc i) each = tt
in-front P (x ∷ xs) zero each = tt
in-front P (x ∷ xs) (suc i) each = (each 0 x (omega arith) (omega arith), in-front P xs i (λ k d before lies. each (suc k) d (omega (arith, before)) (omega (arith, lies))))

behind : (P : Numbered → Type 0) (xs : List Numbered) (i : ℕ) → ((k : ℕ) (d : Numbered) → i ≤ k → k < length xs → P (get_or xs k d)) → AllByRecursion P (drop i xs)
behind P [] zero each = tt
behind P [] (suc i) each = tt
behind P (x ∷ xs) zero each = (each 0 x (omega arith) (omega arith), behind P xs zero (λ k d after lies. each (suc k) d (omega arith) (omega (arith, lies))))
behind P (x ∷ xs) (suc i) each = behind P xs i (λ k d after lies. each (suc k) d (omega (arith, after)) (omega (arith, lies)))

pub place-from : (due : ℕ) (xs : List Numbered) (i : ℕ) → i ≤ length xs → IsPartitionPoint (λ kept. nat_le kept.delay.due due ≡ true) (λ kept. nat_le kept.delay.due due ≡ false) xs i → IsPlace due xs i
place-from due xs i within point = (
  in-front (λ kept. kept.delay.due ≤ due) xs i (λ k d before lies. leb-true (get_or xs k d).delay.due due (point.0 k d (omega arith) before)),
  behind (λ kept. due < kept.delay.due) xs i (λ k d after lies. leb-false (get_or xs k d).delay.due due (point.1 k d after lies)),
)
