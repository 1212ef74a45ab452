-- Where a template is cut, and what its parts give.
use Rattle.std.proofs.Common.{◌≡◌, ℕ, zero, suc, ◌<◌, List, [], ◌∷◌, ◌++◌, length, take, drop, false, eqb, refl, sym, ap, ◌∙◌, arith, None, append_assoc}
use Rattle.std.specs.Prelude.{codes}
use Rattle.std.specs.List.{starts_with}
use Rattle.std.specs.Str.{IsUtf8}
use Rattle.std.specs.Str.Pattern.{LacksTextAt, FindsText, SplitsAroundMatch}
use Rattle.std.proofs.lemmas.Grind.{common_steps}
use Rattle.std.proofs.lemmas.Str.{IsUtf8-drop}
use Rattle.std.proofs.lemmas.Str.Pattern.{starts_text}
use Rattle.address_routing.specs.Routing.{filled_from, filled}

abbrev pub slot : List ℕ
slot = codes "{function.name}"

lacks : (s : List ℕ) → LacksTextAt slot s 0 → starts_with eqb s slot ≡ false
lacks s h = sym (starts_text false slot s h)

-- no place of the name is before a cut
filled-cut : (name s : List ℕ) (i : ℕ) → ((k : ℕ) → k < i → LacksTextAt slot s k) → filled_from name 0 s ≡ take i s ++ filled_from name 0 (drop i s)
filled-cut name s zero h = refl
filled-cut name [] (suc i) h = refl
filled-cut name (byte ∷ bytes) (suc i) h = let e = lacks (byte ∷ bytes) (h 0 (omega arith)) in rw e (ap (λ t. byte ∷ t) (filled-cut name bytes i (λ k l. h (suc k) (omega arith))))

-- at a place of the name
filled-slot : (name rest : List ℕ) → filled_from name 0 (slot ++ rest) ≡ name ++ filled_from name 0 rest
filled-slot name rest = refl

-- a template that is cut round the first place of the name
pub filled-around : (name s front back : List ℕ) → SplitsAroundMatch (FindsText slot) s front back → filled name s ≡ front ++ (name ++ filled name back)
unfolding filled
filled-around name s front back w = let cut = filled-cut name s w.0 w.2.0 in let at = ap (filled_from name 0) w.2.1.split in let e = filled-slot name (drop w.1 s) in let f = w.3 in let g = w.4 in rw (f, g) (cut ∙ ap (λ t. take w.0 s ++ t) (at ∙ e))

pub IsUtf8-back : (s front back : List ℕ) → SplitsAroundMatch (FindsText slot) s front back → IsUtf8 s → IsUtf8 back
IsUtf8-back s front back w u = let at = w.2.1 in rw (w.4, at.ends) (IsUtf8-drop s _ u at.after)

-- a template without a place of the name
pub filled-none : (name s : List ℕ) → FindsText slot s None → filled name s ≡ s
unfolding filled
filled-none name s h = filled-cut name s (length s) (λ k l. h k (omega arith)) ∙ grind (arith, common_steps)

-- one more part
pub parts_more : (made more whole name rest front back total : List ℕ) → more ≡ made ++ front → whole ≡ more ++ name → filled name rest ≡ front ++ (name ++ filled name back) → made ++ filled name rest ≡ total → whole ++ filled name back ≡ total
parts_more made more whole name rest front back total e f g h = rw (f, e, append_assoc, append_assoc) (rw g at h)
