-- What is written, part by part.
use Rattle.std.proofs.Common.{◌≡◌, ℕ, List, [], ◌++◌, sym, ap, ◌∙◌, append_assoc}
use Rattle.std.proofs.lemmas.List.{append-nil}

-- the last part
pub ends : (a s : List ℕ) {bytes : List ℕ} → bytes ≡ a ++ s → bytes ≡ a ++ (s ++ [])
ends a s e = e ∙ ap (λ (t : List ℕ). a ++ t) (sym (append-nil s))

-- a part, and those behind it
pub behind : (into s t : List ℕ) {a bytes : List ℕ} → a ≡ into ++ s → bytes ≡ a ++ t → bytes ≡ into ++ (s ++ t)
behind into s t f e = e ∙ ap (λ (b : List ℕ). b ++ t) f ∙ append_assoc into s t
