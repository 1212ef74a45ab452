-- What a registration leaves.
use Rattle.std.proofs.Common.{◌≡◌, ℕ, suc, ◌<◌, nat_le, Bool, true, false, List, [], ◌∷◌, ◌++◌, length, Option, Some, None, Result, Ok, Err, IfOk, OnOk, OnErr, if◌then◌else◌, is_some, refl, sym, ap, subst, ◌∙◌}
use Rattle.std.proofs.lemmas.Bool.{leb-false}
use Rattle.std.specs.List.{IsDistinct}
use Rattle.std.specs.Map.{keys_of, values_of, lookup}
use Rattle.typed_values.specs.declared.cell.CellSpec.{CellSpec}
use Rattle.typed_values.specs.declared.cells.Cell.{Cell}
use Rattle.typed_values.specs.Sameness.{same_bytes}
use Rattle.typed_values.specs.Cells.{found, registered, empty}
use Rattle.state_cells.specs.declared.fault.CellFault.{CellFault}
use Rattle.state_cells.specs.declared.fault.CellFault.TheVariants.{TypeDiffers, TooMany}
use Rattle.state_cells.specs.Answers.{Answers, declared, registering}
use Rattle.state_cells.specs.Kept.{IsAdded, most_cells}
use Rattle.state_cells.proofs.Named.{found-lookup, cells-push, values-push}
use Rattle.state_cells.proofs.Setting.{Good}

-- what a new name says
abbrev yes : Result Bool CellFault → Type 0
yes (Ok true) = Unit {0}
yes (Ok false) = ⊥
yes (Err fault) = ⊥

abbrev no : Result Bool CellFault → Type 0
no (Ok true) = ⊥
no (Ok false) = Unit {0}
no (Err fault) = ⊥

fresh : (spec : CellSpec) (cell : Option Cell) (count : ℕ) → yes (declared spec cell count) → (cell ≡ None) × (count < most_cells)
fresh spec (Some cell) count new = by (same_bytes spec.typename cell.spec.typename) new
  where
    by : (alike : Bool) → yes (if alike then Ok false else Err TypeDiffers) → (Some cell ≡ None) × (count < most_cells)
    by true h = absurd h
    by false h = absurd h
fresh spec None count new = (refl, by (nat_le most_cells count) refl new)
  where
    by : (full : Bool) → nat_le most_cells count ≡ full → yes (if full then Err TooMany else Ok true) → count < most_cells
    by true is h = absurd h
    by false is h = leb-false most_cells count is

known : (spec : CellSpec) (cell : Option Cell) (count : ℕ) → no (declared spec cell count) → is_some cell ≡ true
known spec (Some cell) count there = refl
known spec None count there = by (nat_le most_cells count) there
  where
    by : (full : Bool) → no (if full then Err TooMany else Ok true) → false ≡ true
    by true h = absurd h
    by false h = absurd h

length-values : (es : List (List ℕ × Cell)) → length (values_of es) ≡ length es
length-values [] = refl
length-values (e ∷ es) = ap suc (length-values es)

registered-new : (spec : CellSpec) (cells : List Cell) → found spec.name cells ≡ None → registered spec cells ≡ cells ++ empty spec ∷ []
registered-new spec cells none = ap (λ cell. if is_some cell then cells else cells ++ empty spec ∷ []) none

registered-known : (spec : CellSpec) (cells : List Cell) → is_some (found spec.name cells) ≡ true → registered spec cells ≡ cells
registered-known spec cells there = ap (λ known. if known then cells else cells ++ empty spec ∷ []) there

module _ (spec : CellSpec) (es fs : List (List ℕ × Cell)) (good : Good es) where
  abbrev pub wanted : Result Bool CellFault
  wanted = declared spec (lookup (same_bytes spec.name) es) (length es)

  pub answers-same : (result : Result Bool CellFault) → Answers wanted result → Answers (registering spec (values_of es)) result
  answers-same result answer = subst (λ w. Answers w result) (ap (λ cell. declared spec cell (length es)) (found-lookup spec.name es good.0) ∙ ap (declared spec (found spec.name (values_of es))) (sym (length-values es))) answer

  pub added-good : (result : Result Bool CellFault) → Answers wanted result → IfOk result (λ is_new. IsAdded spec is_new es fs) → OnOk result (IsDistinct same_bytes (keys_of fs)) → OnErr result (fs ≡ es) → Good fs
  added-good (Ok true) answer added distinct left = cells-push es fs spec added (fresh spec (lookup (same_bytes spec.name) es) (length es) (subst yes (sym answer) tt)).1 distinct good.0 good.1
  added-good (Ok false) answer added distinct left = subst Good (sym added) good
  added-good (Err fault) answer added distinct left = subst Good (sym left) good

  pub added-values : (result : Result Bool CellFault) → Answers wanted result → IfOk result (λ is_new. IsAdded spec is_new es fs) → OnOk result (values_of fs ≡ registered spec (values_of es))
  added-values (Ok true) answer added =
      let none = (fresh spec (lookup (same_bytes spec.name) es) (length es) (subst yes (sym answer) tt)).0 in
      ap values_of added ∙ values-push es spec ∙ sym (registered-new spec (values_of es) (sym (found-lookup spec.name es good.0) ∙ none))
  added-values (Ok false) answer added =
      let there = known spec (lookup (same_bytes spec.name) es) (length es) (subst no (sym answer) tt) in
      ap values_of added ∙ sym (registered-known spec (values_of es) (ap is_some (sym (found-lookup spec.name es good.0)) ∙ there))
  added-values (Err fault) answer added = tt
