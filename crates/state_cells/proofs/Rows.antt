-- Cells that are gone through one after the other.
use Rattle.std.proofs.Common.{◌≡◌, ℕ, zero, suc, ◌+◌, ◌<◌, false, List, [], ◌∷◌, ◌++◌, map, take, drop, length, get_or, None, refl, ap, ◌∙◌, arith, add-one}
use Rattle.std.specs.Cmp.Lexicographic.{nat_list_eq_equiv}
use Rattle.std.specs.List.{IsDistinct, AllByRecursion}
use Rattle.std.specs.Map.{values_of, lookup}
use Rattle.indexmap.specs.IndexMap.{set_value_at}
use Rattle.typed_values.specs.declared.cells.Cell.{Cell}
use Rattle.typed_values.specs.Sameness.{same_bytes}
use Rattle.state_cells.specs.Kept.{AreNamed, after_each, name_of, under_name}

-- the next cell is changed
module _ (change : Cell → Cell) where
  abbrev pub before : ℕ → List (List ℕ × Cell) → List (List ℕ × Cell)
  before i es = map (after_each change) (take i es) ++ drop i es

  pub still : (i : ℕ) (es : List (List ℕ × Cell)) (d : Cell) → i < length es → get_or (values_of (before i es)) i d ≡ get_or (values_of es) i d
  still i [] d lies = absurd (omega (arith, lies))
  still zero (e ∷ es) d lies = refl
  still (suc i) (e ∷ es) d lies = still i es d (omega (arith, lies))

  pub each-step : (i : ℕ) (es : List (List ℕ × Cell)) (d : Cell) → i < length es → set_value_at (before i es) i (change (get_or (values_of es) i d)) ≡ before (suc i) es
  each-step i [] d lies = absurd (omega (arith, lies))
  each-step zero (e ∷ es) d lies = refl
  each-step (suc i) (e ∷ es) d lies = ap (λ fs. after_each change e ∷ fs) (each-step i es d (omega (arith, lies)))

-- a name that is none of these
apart : (name : List ℕ) (cells : List Cell) (i : ℕ) (d : Cell) → i < length cells → AllByRecursion (λ y. same_bytes name y ≡ false) (map name_of cells) → same_bytes (name_of (get_or cells i d)) name ≡ false
apart name [] i d lies others = absurd (omega (arith, lies))
apart name (c ∷ cs) zero d lies others = nat_list_eq_equiv.symm c.spec.name name ∙ others.0
apart name (c ∷ cs) (suc i) d lies others = apart name cs i d (omega (arith, lies)) others.1

-- the next cell's name is new
new-name : (cells : List Cell) (i : ℕ) (d : Cell) → i < length cells → IsDistinct same_bytes (map name_of cells) → lookup (same_bytes (name_of (get_or cells i d))) (map under_name (take i cells)) ≡ None
unfolding IsDistinct
new-name [] i d lies distinct = absurd (omega (arith, lies))
new-name (c ∷ cs) zero d lies distinct = refl
new-name (c ∷ cs) (suc i) d lies distinct = rw (apart c.spec.name cs i d (omega (arith, lies)) distinct.0) (new-name cs i d (omega (arith, lies)) distinct.1)

take-push : (cells : List Cell) (i : ℕ) (d : Cell) → i < length cells → map under_name (take i cells) ++ under_name (get_or cells i d) ∷ [] ≡ map under_name (take (suc i) cells)
take-push [] i d lies = absurd (omega (arith, lies))
take-push (c ∷ cs) zero d lies = refl
take-push (c ∷ cs) (suc i) d lies = ap (λ es. under_name c ∷ es) (take-push cs i d (omega (arith, lies)))

pub copy-step : (cells : List Cell) (i : ℕ) (cell copy : Cell) (name : List ℕ) (es new : List (List ℕ × Cell)) → i < length cells → cell ≡ get_or cells i cell → name ≡ name_of cell → copy ≡ cell
    → es ≡ map under_name (take i cells) → IsDistinct same_bytes (map name_of cells) → (lookup (same_bytes name) es ≡ None → new ≡ es ++ (name, copy) ∷ []) → new ≡ map under_name (take (i + 1) cells)
copy-step cells i cell copy name es new lies is called same so-far distinct pushed =
    let fresh : lookup (same_bytes name) es ≡ None = rw (so-far, called) (ap (λ (x : Cell). lookup (same_bytes (name_of x)) (map under_name (take i cells))) is ∙ new-name cells i cell lies distinct) in
    rw add-one (pushed fresh ∙ (λ j. so-far j ++ (called j, same j) ∷ []) ∙ ap (λ (x : Cell). map under_name (take i cells) ++ under_name x ∷ []) is ∙ take-push cells i cell lies)

pub values-under : (cells : List Cell) → values_of (map under_name cells) ≡ cells
values-under [] = refl
values-under (c ∷ cs) = ap (λ cells. c ∷ cells) (values-under cs)

pub named-under : (cells : List Cell) → AreNamed (map under_name cells)
named-under [] = tt
named-under (c ∷ cs) = (refl, named-under cs)
