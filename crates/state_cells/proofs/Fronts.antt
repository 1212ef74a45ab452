-- The first cells of an address.
use Rattle.std.proofs.Common.{◌≡◌, ℕ, ◌≤◌, zero, suc, List, [], ◌∷◌, length, take, map, refl, ap, arith, length-take}
use Rattle.std.specs.Map.{values_of}
use Rattle.indexmap.proofs.MapLemmas.{distinct-take}
use Rattle.std.proofs.lemmas.Cmp.{nat_list_eq_equiv}
use Rattle.typed_values.specs.declared.cells.Cell.{Cell}
use Rattle.state_cells.specs.Kept.{AreNamed, AreCells, Each, IsKept, name_of}

named-take : (n : ℕ) (es : List (List ℕ × Cell)) → AreNamed es → AreNamed (take n es)
named-take zero es named = tt
named-take (suc n) [] named = tt
named-take (suc n) (e ∷ es) named = (named.0, named-take n es named.1)

pub values-take : (n : ℕ) (es : List (List ℕ × Cell)) → values_of (take n es) ≡ take n (values_of es)
values-take zero es = refl
values-take (suc n) [] = refl
values-take (suc n) (e ∷ es) = ap (λ cells. e.1 ∷ cells) (values-take n es)

kept-take : (n : ℕ) (cells : List Cell) → Each IsKept cells → Each IsKept (take n cells)
kept-take zero cells all = tt
kept-take (suc n) [] all = tt
kept-take (suc n) (cell ∷ cells) all = (all.0, kept-take n cells all.1)

names-take : (n : ℕ) (cells : List Cell) → map name_of (take n cells) ≡ take n (map name_of cells)
names-take zero cells = refl
names-take (suc n) [] = refl
names-take (suc n) (cell ∷ cells) = ap (λ names. name_of cell ∷ names) (names-take n cells)

fewer : (n : ℕ) (cells : List Cell) → length (take n cells) ≤ length cells
fewer n cells = omega (arith, length-take n cells)

cells-take : (n : ℕ) (cells : List Cell) → AreCells cells → AreCells (take n cells)
cells-take n cells all = record {
  few = omega (arith, fewer n cells, all.few);
  distinct = rw (names-take n cells) (distinct-take nat_list_eq_equiv n (map name_of cells) all.distinct);
  kept = kept-take n cells all.kept;
}

-- the first of kept cells are kept
pub good-take : (n : ℕ) (es : List (List ℕ × Cell)) → AreNamed es × AreCells (values_of es) → AreNamed (take n es) × AreCells (values_of (take n es))
good-take n es good = (named-take n es good.0, rw (values-take n es) (cells-take n (values_of es) good.1))
