-- Steps in order of their keys.
use Rattle.std.specs.Prelude.{◌≡◌, Bool, true, false, List, [], ◌∷◌, if◌then◌else◌}
use Rattle.std.specs.List.{AllByRecursion}

-- one key is before another: never both ways, and so before all that are not before the other
pub record IsKeyOrder {E : Type 0} (before : E → E → Bool) : Type 0 where
  pub one_way : (e f : E) → before e f ≡ true → before f e ≡ false
  pub passes_on : (e f g : E) → before e f ≡ true → before g f ≡ false → before e g ≡ true

-- each key is before all behind it
abbrev pub Rises : {E : Type 0} → (E → E → Bool) → List E → Type 0
Rises before [] = Unit {0}
Rises before (e ∷ es) = AllByRecursion (λ f. before e f ≡ true) es × Rises before es

-- a step goes in front of the first whose key its own is before
abbrev pub placed : {E : Type 0} → (E → E → Bool) → E → List E → List E
placed before e [] = e ∷ []
placed before e (f ∷ fs) = if before e f then e ∷ f ∷ fs else f ∷ placed before e fs

-- steps that stand in order, and more put at their places one after the other
abbrev pub merged_behind : {E : Type 0} → (E → E → Bool) → List E → List E → List E
merged_behind before front [] = front
merged_behind before front (e ∷ es) = merged_behind before (placed before e front) es
