-- What a change of one cell leaves.
use Rattle.std.proofs.Common.{◌≡◌, ℕ, nat_lt, Bool, true, false, List, length, Option, Some, None, Result, Ok, Err, OnOk, OnErr, IsTrue, if◌then◌else◌, refl, sym, ap, subst, ◌∙◌}
use Rattle.std.proofs.lemmas.Bool.{ltb-false}
use Rattle.std.specs.Cmp.Lexicographic.{bytes_decides}
use Rattle.std.specs.Map.{values_of, lookup}
use Rattle.typed_values.specs.declared.cells.Cell.{Cell}
use Rattle.typed_values.specs.declared.value.TypedValue.{TypedValue}
use Rattle.typed_values.specs.Sameness.{same_bytes}
use Rattle.typed_values.specs.Cells.{found, changed, written, emptied}
use Rattle.state_cells.specs.declared.fault.CellFault.{CellFault}
use Rattle.state_cells.specs.declared.fault.CellFault.TheVariants.{TypeDiffers, TooLarge}
use Rattle.state_cells.specs.Answers.{taking, clearing}
use Rattle.state_cells.specs.Kept.{AreNamed, AreCells, IsKept, IsSet, most_bytes}
use Rattle.state_cells.proofs.Named.{found-lookup, set-changed, set-named, cells-changed, changed-none}

abbrev pub Good : List (List ℕ × Cell) → Type 0
Good es = AreNamed es × AreCells (values_of es)

module _ (change : Cell → Cell) (same : (c : Cell) → (change c).spec.name ≡ c.spec.name) (name : List ℕ) (es fs : List (List ℕ × Cell)) (good : Good es) (set : IsSet change name es fs) where
  there : found name (values_of es) ≡ Some set.0
  there = sym (found-lookup name es good.0) ∙ set.1

  pub set-values : values_of fs ≡ changed change name (values_of es)
  set-values = ap values_of set.2 ∙ set-changed name change set.0 es good.0 there

  pub set-good : IsKept (change set.0) → Good fs
  set-good new = (
    subst AreNamed (sym set.2) (set-named name set.0 (change set.0) es good.0 there (same set.0)),
    subst AreCells (sym set-values) (cells-changed name change set.0 (values_of es) same there new good.1),
  )

abbrev yes : Result (Unit {0}) CellFault → Type 0
yes (Ok it) = Unit {0}
yes (Err fault) = ⊥

abbrev done : Unit {0}
done = tt

-- a value that a cell takes is one that it may keep
taken-kept : (value : TypedValue) (moment : ℕ) (c : Cell) → IsTrue value.has_value → taking value (Some c) ≡ Ok tt → IsKept (written value moment c)
taken-kept value moment c whole taken = by (same_bytes c.spec.typename value.typename) refl (nat_lt most_bytes (length value.value)) refl (subst yes (sym taken) tt)
  where
    by : (alike : Bool) → same_bytes c.spec.typename value.typename ≡ alike → (long : Bool) → nat_lt most_bytes (length value.value) ≡ long
        → yes (if alike then (if long then Err TooLarge else Ok done) else Err TypeDiffers) → IsKept (written value moment c)
    by true is false short t = (cc, sym ((bytes_decides c.spec.typename value.typename).0 is), ltb-false most_bytes (length value.value) short)
    by true is true long t = absurd t
    by false is long e t = absurd t

module _ (name : List ℕ) (value : TypedValue) (moment : ℕ) (es fs : List (List ℕ × Cell)) (whole : IsTrue value.has_value) (good : Good es) where
  pub written-good : (result : Result (Unit {0}) CellFault) → result ≡ taking value (lookup (same_bytes name) es) → OnOk result (IsSet (written value moment) name es fs) → OnErr result (fs ≡ es) → Good fs
  written-good (Ok tt) answer set left = set-good (written value moment) (λ c. refl) name es fs good set (taken-kept value moment set.0 whole (ap (taking value) (sym set.1) ∙ sym answer))
  written-good (Err fault) answer set left = subst Good (sym left) good

  pub written-values : (result : Result (Unit {0}) CellFault) → OnOk result (IsSet (written value moment) name es fs) → OnOk result (values_of fs ≡ changed (written value moment) name (values_of es))
  written-values (Ok tt) set = set-values (written value moment) (λ c. refl) name es fs good set
  written-values (Err fault) set = tt

module _ (name : List ℕ) (es fs : List (List ℕ × Cell)) (good : Good es) where
  pub cleared-good : (result : Result (Unit {0}) CellFault) → OnOk result (IsSet emptied name es fs) → OnErr result (fs ≡ es) → Good fs
  cleared-good (Ok tt) set left = set-good emptied (λ c. refl) name es fs good set refl
  cleared-good (Err fault) set left = subst Good (sym left) good

  pub cleared-values : (result : Result (Unit {0}) CellFault) → result ≡ clearing (lookup (same_bytes name) es) → OnOk result (IsSet emptied name es fs) → OnErr result (fs ≡ es)
      → values_of fs ≡ changed emptied name (values_of es)
  cleared-values (Ok tt) answer set left = set-values emptied (λ c. refl) name es fs good set
  cleared-values (Err fault) answer set left = ap values_of left ∙ sym (changed-none name emptied (values_of es) (sym (found-lookup name es good.0) ∙ absent (lookup (same_bytes name) es) answer))
    where
      absent : (cell : Option Cell) → Err fault ≡ clearing cell → cell ≡ None
      absent None e = refl
      absent (Some cell) e = absurd cc
