-- An endpoint is for a type exactly where one is exactly for it or for its namespace.
use Rattle.std.proofs.Common.{◌≡◌, refl, Bool, true, false, List, [], ◌∷◌, Option, Some, None, cond}
use Rattle.std.specs.Prelude.{◌||◌, is_some, find}
use Rattle.std.specs.List.{list_any}
use Rattle.address_routing.specs.Routing.{or_else}

pub any-served : {A : Type 0} (exact wide : A → Bool) (xs : List A) → list_any (λ x. exact x || wide x) xs ≡ is_some (or_else (find exact xs) (find wide xs))
any-served exact wide [] = refl
any-served {A} exact wide (x ∷ xs) = go (exact x) (wide x) (any-served exact wide xs)
  where
    found : (o : Option A) → true ≡ is_some (or_else o (Some x))
    found None = refl
    found (Some y) = refl

    go : (e w : Bool) → list_any (λ x. exact x || wide x) xs ≡ is_some (or_else (find exact xs) (find wide xs)) →
        ((e || w) || list_any (λ x. exact x || wide x) xs) ≡ is_some (or_else (cond e (Some x) (find exact xs)) (cond w (Some x) (find wide xs)))
    go true w rest = refl
    go false true rest = found (find exact xs)
    go false false rest = rest
