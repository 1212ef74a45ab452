-- What is told of a sink after one more write.
use Rattle.std.proofs.Common.{◌≡◌, ℕ, ◌+◌, List, ◌++◌, take, drop, refl, ap, Option, Some, None, append_assoc}
use Rattle.std.proofs.Math.Seq.{take-add}
use Rattle.sf_outside.specs.Told.{more}

pub more-more : {A : Type 0} (told : Option (List A)) (xs ys : List A) → more (more told xs) ys ≡ more told (xs ++ ys)
more-more None xs ys = refl
more-more (Some told) xs ys = ap Some (append_assoc told xs ys)

pub written-more : (told before after : Option (List ℕ)) (bytes rest : List ℕ) (done n : ℕ) → before ≡ more told (take done bytes) → rest ≡ drop done bytes → after ≡ more before (take n rest) → after ≡ more told (take (done + n) bytes)
written-more told before after bytes rest done n e f g = let h = take-add done n bytes in rw (g, f, e, more-more told (take done bytes) (take n (drop done bytes)), ← h) refl
