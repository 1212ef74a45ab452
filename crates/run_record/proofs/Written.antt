-- The value that was written last.
use Rattle.std.proofs.Common.{◌≡◌, ◌∙◌, sym, ap, subst, refl, ℕ, ◌+◌, ◌<◌, nat_le, List, [], ◌∷◌, ◌++◌, Bool, true, false, true≢false, cond, map, Option, Some, None, is_some, arith}
use Rattle.std.proofs.lemmas.Bool.{leb-false, false_from_ne_true}
use Rattle.std.specs.Cmp.Lexicographic.{bytes_decides}
use Rattle.typed_values.specs.declared.value.TypedValue.{TypedValue}
use Rattle.typed_values.specs.declared.cell.CellSpec.{CellSpec}
use Rattle.typed_values.specs.declared.cell.Expiry.{Expiry}
use Rattle.typed_values.specs.declared.cell.Expiry.TheVariants.{Never, AfterWrite, AfterInvoke}
use Rattle.typed_values.specs.declared.cells.Cell.{Cell}
use Rattle.typed_values.specs.Sameness.{same_bytes}
use Rattle.typed_values.specs.Cells.{found, is_named, is_expired, lapsed, value_at, empty, emptied, written, used, invoked, registered, changed}
use Rattle.state_cells.specs.Lifetimes.{Call, Registers, Modifies, Deletes, Invokes, after, after_all}
use Rattle.run_record.specs.Histories.{written_after, last_written}

-- what is known of a cell: its value is the last that was written, and where time counts from writes it was written at the stamp
abbrev pub Tells : Option (TypedValue × ℕ) → Expiry → Option TypedValue → ℕ → Type 0
Tells last mode None stamp = Unit {0}
Tells last mode (Some value) stamp = (wrote : ℕ) × (last ≡ Some (value, wrote)) × (mode ≡ AfterWrite → stamp ≡ wrote)

abbrev pub TellsOf : Option (TypedValue × ℕ) → Option Cell → Type 0
TellsOf last None = Unit {0}
TellsOf last (Some cell) = Tells last cell.spec.mode cell.value cell.stamp

module _ (name : List ℕ) where
  tells_empty : (last : Option (TypedValue × ℕ)) (spec : CellSpec) (b : Bool) → TellsOf last (cond b (Some (empty spec)) None)
  tells_empty last spec true = tt
  tells_empty last spec false = tt

  tells_push : (last : Option (TypedValue × ℕ)) (spec : CellSpec) (cells : List Cell) → TellsOf last (found name cells) → TellsOf last (found name (cells ++ empty spec ∷ []))
  tells_push last spec [] tells = tells_empty last spec (same_bytes name spec.name)
  tells_push last spec (cell ∷ cells) tells = by (is_named name cell) (tells_push last spec cells) tells
    where
      by : (b : Bool) → (TellsOf last (found name cells) → TellsOf last (found name (cells ++ empty spec ∷ []))) → TellsOf last (cond b (Some cell) (found name cells)) → TellsOf last (cond b (Some cell) (found name (cells ++ empty spec ∷ [])))
      by true more t = t
      by false more t = more t

  tells_registered : (last : Option (TypedValue × ℕ)) (spec : CellSpec) (cells : List Cell) → TellsOf last (found name cells) → TellsOf last (found name (registered spec cells))
  tells_registered last spec cells tells = by (is_some (found spec.name cells))
    where
      by : (b : Bool) → TellsOf last (found name (cond b cells (cells ++ empty spec ∷ [])))
      by true = tells
      by false = tells_push last spec cells tells

  -- the cell of the name itself is changed
  changed_here : (last : Option (TypedValue × ℕ)) (change : Cell → Cell) → ((cell : Cell) → (change cell).spec ≡ cell.spec) → ((cell : Cell) → TellsOf last (Some (change cell))) → (cells : List Cell) → TellsOf last (found name (changed change name cells))
  changed_here last change keeps tells [] = tt
  changed_here last change keeps tells (cell ∷ cells) = by (is_named name cell) refl (changed_here last change keeps tells cells)
    where
      by : (b : Bool) → is_named name cell ≡ b → TellsOf last (found name (changed change name cells)) → TellsOf last (found name (cond b (change cell ∷ cells) (cell ∷ changed change name cells)))
      by true e more = subst (λ t. TellsOf last (cond t (Some (change cell)) (found name cells))) (sym (ap (λ (spec : CellSpec). same_bytes name spec.name) (keeps cell) ∙ e)) (tells cell)
      by false e more = subst (λ t. TellsOf last (cond t (Some cell) (found name (changed change name cells)))) (sym e) more

  -- the cell of another name is changed
  changed_beside : (other : List ℕ) (change : Cell → Cell) → ((cell : Cell) → (change cell).spec ≡ cell.spec) → same_bytes other name ≡ false → (cells : List Cell) → found name (changed change other cells) ≡ found name cells
  changed_beside other change keeps apart [] = refl
  changed_beside other change keeps apart (cell ∷ cells) = by (is_named other cell) refl (changed_beside other change keeps apart cells)
    where
      not_here : is_named other cell ≡ true → same_bytes name cell.spec.name ≡ false
      not_here e = false_from_ne_true (same_bytes name cell.spec.name) (λ t. true≢false (sym ((bytes_decides other name).1 ((bytes_decides other cell.spec.name).0 e ∙ sym ((bytes_decides name cell.spec.name).0 t))) ∙ apart))

      by : (b : Bool) → is_named other cell ≡ b → found name (changed change other cells) ≡ found name cells → found name (cond b (change cell ∷ cells) (cell ∷ changed change other cells)) ≡ found name (cell ∷ cells)
      by true e more =
          ap (λ t. cond t (Some (change cell)) (found name cells)) (ap (λ (spec : CellSpec). same_bytes name spec.name) (keeps cell) ∙ not_here e)
          ∙ sym (ap (λ t. cond t (Some cell) (found name cells)) (not_here e))
      by false e more = ap (λ o. cond (is_named name cell) (Some cell) o) more

  tells_used : (last : Option (TypedValue × ℕ)) (mode : Expiry) (value : Option TypedValue) (stamp moment : ℕ) → Tells last mode value stamp → Tells last mode value (used mode value stamp moment)
  tells_used last mode None stamp moment tells = tt
  tells_used last Never (Some value) stamp moment tells = tells
  tells_used last AfterWrite (Some value) stamp moment tells = tells
  tells_used last AfterInvoke (Some value) stamp moment tells = (tells.0, tells.1, λ e. absurd cc)

  tells_invoked : (last : Option (TypedValue × ℕ)) (moment : ℕ) (cell : Cell) → TellsOf last (Some cell) → TellsOf last (Some (invoked moment cell))
  tells_invoked last moment cell tells = by (is_expired moment cell)
    where
      by : (b : Bool) → TellsOf last (Some (cond b (emptied cell) (record { spec = cell.spec; value = cell.value; stamp = used cell.spec.mode cell.value cell.stamp moment })))
      by true = tt
      by false = tells_used last cell.spec.mode cell.value cell.stamp moment tells

  pub invoked_spec : (moment : ℕ) (cell : Cell) → (invoked moment cell).spec ≡ cell.spec
  invoked_spec moment cell = by (is_expired moment cell)
    where
      by : (b : Bool) → (cond b (emptied cell) (record { spec = cell.spec; value = cell.value; stamp = used cell.spec.mode cell.value cell.stamp moment })).spec ≡ cell.spec
      by true = refl
      by false = refl

  tells_invokes : (last : Option (TypedValue × ℕ)) (moment : ℕ) (cells : List Cell) → TellsOf last (found name cells) → TellsOf last (found name (map (invoked moment) cells))
  tells_invokes last moment [] tells = tt
  tells_invokes last moment (cell ∷ cells) tells =
      subst (λ t. TellsOf last (cond t (Some (invoked moment cell)) (found name (map (invoked moment) cells)))) (sym (ap (λ (spec : CellSpec). same_bytes name spec.name) (invoked_spec moment cell))) (by (is_named name cell) (tells_invokes last moment cells) tells)
    where
      by : (b : Bool) → (TellsOf last (found name cells) → TellsOf last (found name (map (invoked moment) cells))) → TellsOf last (cond b (Some cell) (found name cells)) → TellsOf last (cond b (Some (invoked moment cell)) (found name (map (invoked moment) cells)))
      by true more t = tells_invoked last moment cell t
      by false more t = more t

  one_call : (call : Call) (cells : List Cell) (last : Option (TypedValue × ℕ)) → TellsOf last (found name cells) → TellsOf (written_after name call last) (found name (after call cells))
  one_call (Registers spec) cells last tells = tells_registered last spec cells tells
  one_call (Modifies other value moment) cells last tells = by (same_bytes other name) refl
    where
      by : (b : Bool) → same_bytes other name ≡ b → TellsOf (cond b (Some (value, moment)) last) (found name (changed (written value moment) other cells))
      by true e = subst (λ n. TellsOf (Some (value, moment)) (found name (changed (written value moment) n cells))) (sym ((bytes_decides other name).0 e)) (changed_here (Some (value, moment)) (written value moment) (λ cell. refl) (λ cell. (moment, refl, λ f. refl)) cells)
      by false e = subst (TellsOf last) (sym (changed_beside other (written value moment) (λ cell. refl) e cells)) tells
  one_call (Deletes other) cells last tells = by (same_bytes other name) refl
    where
      by : (b : Bool) → same_bytes other name ≡ b → TellsOf (cond b None last) (found name (changed emptied other cells))
      by true e = subst (λ n. TellsOf None (found name (changed emptied n cells))) (sym ((bytes_decides other name).0 e)) (changed_here None emptied (λ cell. refl) (λ cell. tt) cells)
      by false e = subst (TellsOf last) (sym (changed_beside other emptied (λ cell. refl) e cells)) tells
  one_call (Invokes moment) cells last tells = tells_invokes last moment cells tells

  all_calls : (calls : List Call) (cells : List Cell) (last : Option (TypedValue × ℕ)) → TellsOf last (found name cells) → TellsOf (last_written name calls last) (found name (after_all calls cells))
  all_calls [] cells last tells = tells
  all_calls (call ∷ calls) cells last tells = all_calls calls (after call cells) (written_after name call last) (one_call call cells last tells)

  -- a value that is carried at a moment
  pub carried_is : (calls : List Call) (cells : List Cell) (cell : Cell) (value : TypedValue) (moment : ℕ) → cells ≡ after_all calls [] → found name cells ≡ Some cell → value_at moment cell ≡ Some value
      → (wrote : ℕ) × (last_written name calls None ≡ Some (value, wrote)) × (is_expired moment cell ≡ false) × (cell.spec.mode ≡ AfterWrite → moment < wrote + cell.spec.millis)
  carried_is calls cells cell value moment made at e = by (is_expired moment cell) refl e
    where
      told : TellsOf (last_written name calls None) (Some cell)
      told = subst (TellsOf (last_written name calls None)) (ap (found name) (sym made) ∙ at) (all_calls calls [] None tt)

      by : (b : Bool) → is_expired moment cell ≡ b → cond b None cell.value ≡ Some value → (wrote : ℕ) × (last_written name calls None ≡ Some (value, wrote)) × (is_expired moment cell ≡ false) × (cell.spec.mode ≡ AfterWrite → moment < wrote + cell.spec.millis)
      by true f g = absurd cc
      by false f g =
          let is = subst (λ o. Tells (last_written name calls None) cell.spec.mode o cell.stamp) g told in
          (is.0, is.1, f, λ mode. in_time is.0 (is.2 mode) (ap (λ m. lapsed m cell.spec.millis cell.stamp moment) (sym mode) ∙ f))
        where
          in_time : (wrote : ℕ) → cell.stamp ≡ wrote → nat_le (cell.stamp + cell.spec.millis) moment ≡ false → moment < wrote + cell.spec.millis
          in_time wrote same late = omega (arith, same, leb-false (cell.stamp + cell.spec.millis) moment late)
