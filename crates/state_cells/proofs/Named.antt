-- Cells that are kept under their names, as the list of them.
use Rattle.std.proofs.Common.{◌≡◌, ℕ, suc, ◌+◌, ◌<◌, ◌≤◌, Bool, true, false, cond, List, [], ◌∷◌, ◌++◌, map, length, Some, None, Result, Ok, Err, OnErr, if◌then◌else◌, refl, sym, ap, subst, ◌∙◌, arith}
use Rattle.std.proofs.lemmas.Map.Steps.{set_value_same}
use Rattle.std.specs.List.{IsDistinct}
use Rattle.std.specs.Map.{keys_of, values_of, lookup, set_value}
use Rattle.typed_values.specs.declared.cell.CellSpec.{CellSpec}
use Rattle.typed_values.specs.declared.cells.Cell.{Cell}
use Rattle.typed_values.specs.Sameness.{same_bytes}
use Rattle.typed_values.specs.Cells.{found, changed, is_named, empty}
use Rattle.state_cells.specs.Kept.{AreNamed, AreCells, Each, IsKept, most_cells, after_each}

abbrev names_of : List Cell → List (List ℕ)
names_of cells = map (λ (cell : Cell). cell.spec.name) cells

none_is_some : {X : Type 0} {x : X} → None ≡ Some x → ⊥
none_is_some e = cc

-- what is looked up is the cell of the name
pub found-lookup : (name : List ℕ) (es : List (List ℕ × Cell)) → AreNamed es → lookup (same_bytes name) es ≡ found name (values_of es)
found-lookup name [] named = refl
found-lookup name (e ∷ es) named = rw (named.0, found-lookup name es named.1) refl

-- a value that is set is the cell changed
pub set-changed : (name : List ℕ) (change : Cell → Cell) (c : Cell) (es : List (List ℕ × Cell)) → AreNamed es → found name (values_of es) ≡ Some c
    → values_of (set_value (same_bytes name) es (change c)) ≡ changed change name (values_of es)
set-changed name change c [] named there = absurd (none_is_some there)
set-changed name change c (e ∷ es) named there = by (same_bytes name e.0) (same_bytes name e.1.spec.name) (ap (same_bytes name) named.0) there (set-changed name change c es named.1)
  where
    by : (key here : Bool) → key ≡ here → (if here then Some e.1 else found name (values_of es)) ≡ Some c
        → (found name (values_of es) ≡ Some c → values_of (set_value (same_bytes name) es (change c)) ≡ changed change name (values_of es))
        → values_of (cond key ((e.0, change c) ∷ es) (e ∷ set_value (same_bytes name) es (change c))) ≡ (if here then change e.1 ∷ values_of es else e.1 ∷ changed change name (values_of es))
    by true true same t more = let mine : c ≡ e.1 = cc in rw mine refl
    by false false same t more = ap (λ cells. e.1 ∷ cells) (more t)
    by true false same t more = absurd cc
    by false true same t more = absurd cc

pub set-named : (name : List ℕ) (c w : Cell) (es : List (List ℕ × Cell)) → AreNamed es → found name (values_of es) ≡ Some c → w.spec.name ≡ c.spec.name
    → AreNamed (set_value (same_bytes name) es w)
set-named name c w [] named there same = absurd (none_is_some there)
set-named name c w (e ∷ es) named there same = by (same_bytes name e.0) (same_bytes name e.1.spec.name) (ap (same_bytes name) named.0) there (λ t. set-named name c w es named.1 t same)
  where
    by : (key here : Bool) → key ≡ here → (if here then Some e.1 else found name (values_of es)) ≡ Some c → (found name (values_of es) ≡ Some c → AreNamed (set_value (same_bytes name) es w))
        → AreNamed (cond key ((e.0, w) ∷ es) (e ∷ set_value (same_bytes name) es w))
    by true true alike t more = let mine : c ≡ e.1 = cc in (named.0 ∙ ap (λ (x : Cell). x.spec.name) (sym mine) ∙ sym same, named.1)
    by false false alike t more = (named.0, more t)
    by true false alike t more = absurd cc
    by false true alike t more = absurd cc

length-changed : (name : List ℕ) (change : Cell → Cell) (cells : List Cell) → length (changed change name cells) ≡ length cells
length-changed name change [] = refl
length-changed name change (c ∷ cs) = by (is_named name c) (length-changed name change cs)
  where
    by : (here : Bool) → length (changed change name cs) ≡ length cs → length (if here then change c ∷ cs else c ∷ changed change name cs) ≡ length (c ∷ cs)
    by true more = refl
    by false more = ap suc more

names-changed : (name : List ℕ) (change : Cell → Cell) → ((c : Cell) → (change c).spec.name ≡ c.spec.name) → (cells : List Cell) → names_of (changed change name cells) ≡ names_of cells
names-changed name change same [] = refl
names-changed name change same (c ∷ cs) = by (is_named name c) (names-changed name change same cs)
  where
    by : (here : Bool) → names_of (changed change name cs) ≡ names_of cs → names_of (if here then change c ∷ cs else c ∷ changed change name cs) ≡ names_of (c ∷ cs)
    by true more = ap (λ n. n ∷ names_of cs) (same c)
    by false more = ap (λ ns. c.spec.name ∷ ns) more

kept-changed : (name : List ℕ) (change : Cell → Cell) (c : Cell) (cells : List Cell) → found name cells ≡ Some c → IsKept (change c) → Each IsKept cells → Each IsKept (changed change name cells)
kept-changed name change c [] there new all = tt
kept-changed name change c (d ∷ ds) there new all = by (is_named name d) there (λ t. kept-changed name change c ds t new all.1)
  where
    by : (here : Bool) → (if here then Some d else found name ds) ≡ Some c → (found name ds ≡ Some c → Each IsKept (changed change name ds)) → Each IsKept (if here then change d ∷ ds else d ∷ changed change name ds)
    by true t more = let mine : c ≡ d = cc in (subst (λ x. IsKept (change x)) mine new, all.1)
    by false t more = (all.0, more t)

pub cells-changed : (name : List ℕ) (change : Cell → Cell) (c : Cell) (cells : List Cell) → ((d : Cell) → (change d).spec.name ≡ d.spec.name) → found name cells ≡ Some c → IsKept (change c) → AreCells cells
    → AreCells (changed change name cells)
cells-changed name change c cells same there new all = record {
  few = rw (length-changed name change cells) all.few;
  distinct = rw (names-changed name change same cells) all.distinct;
  kept = kept-changed name change c cells there new all.kept;
}

-- where no cell has the name, nothing is changed
pub changed-none : (name : List ℕ) (change : Cell → Cell) (cells : List Cell) → found name cells ≡ None → changed change name cells ≡ cells
changed-none name change [] none = refl
changed-none name change (c ∷ cs) none = by (is_named name c) none (changed-none name change cs)
  where
    by : (here : Bool) → (if here then Some c else found name cs) ≡ None → (found name cs ≡ None → changed change name cs ≡ cs) → (if here then change c ∷ cs else c ∷ changed change name cs) ≡ c ∷ cs
    by true n more = absurd (none_is_some (sym n))
    by false n more = ap (λ cells. c ∷ cells) (more n)

-- one more cell behind the others
pub named-push : (es : List (List ℕ × Cell)) (spec : CellSpec) → AreNamed es → AreNamed (es ++ (spec.name, empty spec) ∷ [])
named-push [] spec named = (refl, tt)
named-push (e ∷ es) spec named = (named.0, named-push es spec named.1)

pub values-push : (es : List (List ℕ × Cell)) (spec : CellSpec) → values_of (es ++ (spec.name, empty spec) ∷ []) ≡ values_of es ++ empty spec ∷ []
values-push [] spec = refl
values-push (e ∷ es) spec = ap (λ cells. e.1 ∷ cells) (values-push es spec)

kept-push : (cells : List Cell) (spec : CellSpec) → Each IsKept cells → Each IsKept (cells ++ empty spec ∷ [])
kept-push [] spec all = (refl, tt)
kept-push (c ∷ cs) spec all = (all.0, kept-push cs spec all.1)

pub names-values : (es : List (List ℕ × Cell)) → AreNamed es → names_of (values_of es) ≡ keys_of es
names-values [] named = refl
names-values (e ∷ es) named = rw (named.0, names-values es named.1) refl

length-push : (es : List (List ℕ × Cell)) (c : Cell) → length (values_of es ++ c ∷ []) ≡ length es + 1
length-push [] c = refl
length-push (e ∷ es) c = ap suc (length-push es c) ∙ omega arith

pub cells-push : (es fs : List (List ℕ × Cell)) (spec : CellSpec) → fs ≡ es ++ (spec.name, empty spec) ∷ [] → length es < most_cells → IsDistinct same_bytes (keys_of fs) → AreNamed es
    → AreCells (values_of es) → AreNamed fs × AreCells (values_of fs)
cells-push es fs spec is few distinct named all =
    let goes = subst AreNamed (sym is) (named-push es spec named) in
    let longer : length (values_of es ++ empty spec ∷ []) ≤ most_cells = omega (arith, length-push es (empty spec), few) in (
      goes,
      record {
        few = rw (is, values-push es spec) longer;
        distinct = rw (names-values fs goes) distinct;
        kept = rw (is, values-push es spec) (kept-push (values_of es) spec all.kept);
      },
    )

-- each cell is changed
pub values-each : (change : Cell → Cell) (es : List (List ℕ × Cell)) → values_of (map (after_each change) es) ≡ map change (values_of es)
values-each change [] = refl
values-each change (e ∷ es) = ap (λ cells. change e.1 ∷ cells) (values-each change es)

named-each : (change : Cell → Cell) → ((c : Cell) → (change c).spec.name ≡ c.spec.name) → (es : List (List ℕ × Cell)) → AreNamed es → AreNamed (map (after_each change) es)
named-each change same [] named = tt
named-each change same (e ∷ es) named = (named.0 ∙ sym (same e.1), named-each change same es named.1)

length-each : (change : Cell → Cell) (cells : List Cell) → length (map change cells) ≡ length cells
length-each change [] = refl
length-each change (c ∷ cs) = ap suc (length-each change cs)

names-each : (change : Cell → Cell) → ((c : Cell) → (change c).spec.name ≡ c.spec.name) → (cells : List Cell) → names_of (map change cells) ≡ names_of cells
names-each change same [] = refl
names-each change same (c ∷ cs) = λ i. same c i ∷ names-each change same cs i

kept-each : (change : Cell → Cell) → ((c : Cell) → IsKept c → IsKept (change c)) → (cells : List Cell) → Each IsKept cells → Each IsKept (map change cells)
kept-each change keeps [] all = tt
kept-each change keeps (c ∷ cs) all = (keeps c all.0, kept-each change keeps cs all.1)

pub cells-each : (change : Cell → Cell) → ((c : Cell) → (change c).spec.name ≡ c.spec.name) → ((c : Cell) → IsKept c → IsKept (change c)) → (es : List (List ℕ × Cell)) → AreNamed es → AreCells (values_of es)
    → AreNamed (map (after_each change) es) × AreCells (values_of (map (after_each change) es))
cells-each change same keeps es named all = (
  named-each change same es named,
  record {
    few = rw (values-each change es, length-each change (values_of es)) all.few;
    distinct = rw (values-each change es, names-each change same (values_of es)) all.distinct;
    kept = rw (values-each change es) (kept-each change keeps (values_of es) all.kept);
  },
)

-- a refusal that leaves the cell leaves the entries
pub entries-refused : {A B : Type 0} (name : List ℕ) (result : Result A B) (new old : Cell) (es fs : List (List ℕ × Cell)) → OnErr result (new ≡ old) → lookup (same_bytes name) es ≡ Some old
    → fs ≡ set_value (same_bytes name) es new → OnErr result (fs ≡ es)
entries-refused name (Ok done) new old es fs left there is = tt
entries-refused name (Err fault) new old es fs left there is = is ∙ ap (set_value (same_bytes name) es) left ∙ set_value_same (same_bytes name) es old there
