-- A list that is gone through, and what does not pass is taken out.
use Rattle.std.proofs.Common.{◌≡◌, ℕ, zero, suc, ◌+◌, ◌<◌, Bool, true, false, cond, List, [], ◌∷◌, ◌++◌, take, drop, filter, length, get_or, remove, Option, Some, None, OnSome, sym, ap, ◌∙◌, arith}

module _ {X : Type 0} (keep : X → Bool) where
  pub goes : (i : ℕ) (xs : List X) (x : X) → i < length xs → x ≡ get_or xs i x → keep x ≡ false → take i xs ++ filter keep (drop i xs) ≡ take i (remove xs i) ++ filter keep (drop i (remove xs i))
  goes i [] x lies is out = absurd (omega (arith, lies))
  goes zero (y ∷ ys) x lies is out = ap (λ kept. cond kept (y ∷ filter keep ys) (filter keep ys)) (ap keep (sym is) ∙ out)
  goes (suc i) (y ∷ ys) x lies is out = ap (λ zs. y ∷ zs) (goes i ys x (omega (arith, lies)) is out)

  pub stays : (i : ℕ) (xs : List X) (x : X) → i < length xs → x ≡ get_or xs i x → keep x ≡ true → take i xs ++ filter keep (drop i xs) ≡ take (suc i) xs ++ filter keep (drop (suc i) xs)
  stays i [] x lies is in-it = absurd (omega (arith, lies))
  stays zero (y ∷ ys) x lies is in-it = ap (λ kept. cond kept (y ∷ filter keep ys) (filter keep ys)) (ap keep (sym is) ∙ in-it)
  stays (suc i) (y ∷ ys) x lies is in-it = ap (λ zs. y ∷ zs) (stays i ys x (omega (arith, lies)) is in-it)

  pub length-remove : (i : ℕ) (xs : List X) → i < length xs → length (remove xs i) + 1 ≡ length xs
  length-remove i [] lies = absurd (omega (arith, lies))
  length-remove zero (y ∷ ys) lies = omega arith
  length-remove (suc i) (y ∷ ys) lies = let more = length-remove i ys (omega (arith, lies)) in omega (arith, more)

pub on-some : {X : Type 0} {P : Type 0} (r : Option X) (x : X) → r ≡ Some x → OnSome r P → P
on-some None x is then-so = absurd (none-is is)
  where
    none-is : None ≡ Some x → ⊥
    none-is e = cc
on-some (Some y) x is then-so = then-so
