-- How long a value lives.
use Rattle.std.proofs.Common.{◌≡◌, ℕ, ◌+◌, nat_le, nat_lt, Bool, true, false, not, ◌&&◌, if◌then◌else◌, List, [], ◌∷◌, ◌++◌, map, Option, Some, None, option_and_then, is_some, true≢false, refl, sym, ap, ◌∙◌, arith}
use Rattle.std.proofs.lemmas.Bool.{ltb-true, ltb-false, leb-true, le-ltb, le-leb, lt-leb}
use Rattle.std.specs.Cmp.{first_so, second_so}
use Rattle.std.specs.Cmp.Lexicographic.{bytes_decides}
use Rattle.typed_values.specs.declared.cell.CellSpec.{CellSpec}
use Rattle.typed_values.specs.declared.cell.Expiry.{Expiry}
use Rattle.typed_values.specs.declared.cell.Expiry.TheVariants.{Never, AfterWrite, AfterInvoke}
use Rattle.typed_values.specs.declared.cells.Cell.{Cell}
use Rattle.typed_values.specs.declared.value.TypedValue.{TypedValue}
use Rattle.typed_values.specs.Sameness.{same_bytes}
use Rattle.typed_values.specs.Cells.{found, registered, changed, written, emptied, empty, invoked, value_at, is_named, is_expired, used, lapsed}
use Rattle.state_cells.specs.Lifetimes.{Call, Registers, Modifies, Deletes, Invokes, after_all, all_spare, invocations, value_after, up_to, never_pauses}
use Rattle.state_cells.proofs.Invoking.{invoked-name}

-- ---- the cell of a name behind a call

chosen : {X : Type 0} (b : Bool) (x y : X) → b ≡ true → (if b then x else y) ≡ x
chosen b x y is = ap (λ t. if t then x else y) is

passed : {X : Type 0} (b : Bool) (x y : X) → b ≡ false → (if b then x else y) ≡ y
passed b x y is = ap (λ t. if t then x else y) is

found-behind : (name : List ℕ) (cells : List Cell) (c new : Cell) → found name cells ≡ Some c → found name (cells ++ new ∷ []) ≡ Some c
found-behind name [] c new there = absurd cc
found-behind name (d ∷ ds) c new there = by (is_named name d) there (found-behind name ds c new)
  where
    by : (here : Bool) → (if here then Some d else found name ds) ≡ Some c → (found name ds ≡ Some c → found name (ds ++ new ∷ []) ≡ Some c) → (if here then Some d else found name (ds ++ new ∷ [])) ≡ Some c
    by true t more = t
    by false t more = more t

found-registered : (name : List ℕ) (cells : List Cell) (c : Cell) (spec : CellSpec) → found name cells ≡ Some c → found name (registered spec cells) ≡ Some c
found-registered name cells c spec there = by (is_some (found spec.name cells))
  where
    by : (known : Bool) → found name (if known then cells else cells ++ empty spec ∷ []) ≡ Some c
    by true = there
    by false = found-behind name cells c (empty spec) there

-- another cell is changed
found-other : (name other : List ℕ) (change : Cell → Cell) → ((d : Cell) → (change d).spec.name ≡ d.spec.name) → same_bytes other name ≡ false → (cells : List Cell) → found name (changed change other cells) ≡ found name cells
found-other name other change same apart [] = refl
found-other name other change same apart (d ∷ ds) = by (is_named other d) refl (found-other name other change same apart ds)
  where
    clash : is_named other d ≡ true → is_named name d ≡ false
    clash mine = no (is_named name d) refl
      where
        no : (here : Bool) → is_named name d ≡ here → here ≡ false
        no false e = refl
        no true e = let o = (bytes_decides other d.spec.name).0 mine in let n = (bytes_decides name d.spec.name).0 e in absurd (true≢false (sym ((bytes_decides other name).1 (o ∙ sym n)) ∙ apart))

    by : (there : Bool) → is_named other d ≡ there → found name (changed change other ds) ≡ found name ds → found name (if there then change d ∷ ds else d ∷ changed change other ds) ≡ found name (d ∷ ds)
    by true is more = rw (same d, clash is) refl
    by false is more = ap (λ cell. if is_named name d then Some d else cell) more

-- the cell itself is changed
found-changed : (name : List ℕ) (change : Cell → Cell) → ((d : Cell) → (change d).spec.name ≡ d.spec.name) → (cells : List Cell) (c : Cell) → found name cells ≡ Some c → found name (changed change name cells) ≡ Some (change c)
found-changed name change same [] c there = absurd cc
found-changed name change same (d ∷ ds) c there = by (is_named name d) refl there (found-changed name change same ds c)
  where
    by : (here : Bool) → is_named name d ≡ here → (if here then Some d else found name ds) ≡ Some c → (found name ds ≡ Some c → found name (changed change name ds) ≡ Some (change c))
        → found name (if here then change d ∷ ds else d ∷ changed change name ds) ≡ Some (change c)
    by true is t more = let mine : d ≡ c = cc in chosen (is_named name (change d)) (Some (change d)) (found name ds) (ap (same_bytes name) (same d) ∙ is) ∙ ap (λ x. Some (change x)) mine
    by false is t more = passed (is_named name d) (Some d) (found name (changed change name ds)) is ∙ more t

found-each : (name : List ℕ) (change : Cell → Cell) → ((d : Cell) → (change d).spec.name ≡ d.spec.name) → (cells : List Cell) (c : Cell) → found name cells ≡ Some c → found name (map change cells) ≡ Some (change c)
found-each name change same [] c there = absurd cc
found-each name change same (d ∷ ds) c there = by (is_named name d) refl there (found-each name change same ds c)
  where
    by : (here : Bool) → is_named name d ≡ here → (if here then Some d else found name ds) ≡ Some c → (found name ds ≡ Some c → found name (map change ds) ≡ Some (change c))
        → found name (change d ∷ map change ds) ≡ Some (change c)
    by true is t more = let mine : d ≡ c = cc in chosen (is_named name (change d)) (Some (change d)) (found name (map change ds)) (ap (same_bytes name) (same d) ∙ is) ∙ ap (λ x. Some (change x)) mine
    by false is t more = passed (is_named name (change d)) (Some (change d)) (found name (map change ds)) (ap (same_bytes name) (same d) ∙ is) ∙ more t

-- ---- behind all calls: only the invocations count

abbrev invoked_at : List ℕ → Cell → Cell
invoked_at [] c = c
invoked_at (moment ∷ moments) c = invoked_at moments (invoked moment c)

not-true : (b : Bool) → not b ≡ true → b ≡ false
not-true true e = absurd cc
not-true false e = refl

found-after : (name : List ℕ) (calls : List Call) (cells : List Cell) (c : Cell) → all_spare name calls ≡ true → found name cells ≡ Some c → found name (after_all calls cells) ≡ Some (invoked_at (invocations calls) c)
found-after name [] cells c spare there = there
found-after name (Registers spec ∷ calls) cells c spare there = found-after name calls (registered spec cells) c spare (found-registered name cells c spec there)
found-after name (Modifies other value moment ∷ calls) cells c spare there =
    found-after name calls (changed (written value moment) other cells) c (second_so (not (same_bytes other name)) (all_spare name calls) spare)
    (found-other name other (written value moment) (λ d. refl) (not-true (same_bytes other name) (first_so (not (same_bytes other name)) (all_spare name calls) spare)) cells ∙ there)
found-after name (Deletes other ∷ calls) cells c spare there =
    found-after name calls (changed emptied other cells) c (second_so (not (same_bytes other name)) (all_spare name calls) spare)
    (found-other name other emptied (λ d. refl) (not-true (same_bytes other name) (first_so (not (same_bytes other name)) (all_spare name calls) spare)) cells ∙ there)
found-after name (Invokes moment ∷ calls) cells c spare there = found-after name calls (map (invoked moment) cells) (invoked moment c) spare (found-each name (invoked moment) (invoked-name moment) cells c there)

pub value-then : (cells : List Cell) (c : Cell) (name : List ℕ) (value : TypedValue) (start moment : ℕ) (calls : List Call) → found name cells ≡ Some c → all_spare name calls ≡ true
    → value_after name cells value start calls moment ≡ value_at moment (invoked_at (invocations calls) (written value start c))
value-then cells c name value start moment calls there spare =
    ap (option_and_then (value_at moment)) (found-after name calls (changed (written value start) name cells) (written value start c) spare (found-changed name (written value start) (λ d. refl) cells c there))

-- ---- one cell

abbrev holding : CellSpec → TypedValue → ℕ → Cell
holding spec value stamp = record { spec = spec; value = Some value; stamp = stamp }

abbrev no-value : Option TypedValue
no-value = None

both : {X : Type 0} (b : Bool) (x : X) → (if b then x else x) ≡ x
both true x = refl
both false x = refl

-- a value that is gone does not come back
unused : (mode : Expiry) (m : ℕ) → used mode None 0 m ≡ 0
unused Never m = refl
unused AfterWrite m = refl
unused AfterInvoke m = refl

still-gone : (m : ℕ) (spec : CellSpec) → invoked m (empty spec) ≡ empty spec
still-gone m spec = ap (λ stamp. if is_expired m (empty spec) then empty spec else record { spec = spec; value = None; stamp = stamp }) (unused spec.mode m) ∙ both (is_expired m (empty spec)) (empty spec)

gone-at : (moments : List ℕ) (spec : CellSpec) (moment : ℕ) → value_at moment (invoked_at moments (empty spec)) ≡ None
gone-at [] spec moment = both (is_expired moment (empty spec)) no-value
gone-at (m ∷ ms) spec moment = ap (λ c. value_at moment (invoked_at ms c)) (still-gone m spec) ∙ gone-at ms spec moment

module _ (spec : CellSpec) (value : TypedValue) where
  module _ (stamp : ℕ) (m : ℕ) where
    goes-on : (next : ℕ) → lapsed spec.mode spec.millis stamp m ≡ false → used spec.mode (Some value) stamp m ≡ next → invoked m (holding spec value stamp) ≡ holding spec value next
    goes-on next there is = passed (lapsed spec.mode spec.millis stamp m) (empty spec) (record { spec = spec; value = Some value; stamp = used spec.mode (Some value) stamp m }) there ∙ ap (holding spec value) is

    ends : lapsed spec.mode spec.millis stamp m ≡ true → invoked m (holding spec value stamp) ≡ empty spec
    ends over = chosen (lapsed spec.mode spec.millis stamp m) (empty spec) (record { spec = spec; value = Some value; stamp = used spec.mode (Some value) stamp m }) over

  pub stays : (moments : List ℕ) (stamp moment : ℕ) → spec.mode ≡ Never → value_at moment (invoked_at moments (holding spec value stamp)) ≡ Some value
  stays [] stamp moment mode = passed (lapsed spec.mode spec.millis stamp moment) None (Some value) (ap (λ m. lapsed m spec.millis stamp moment) mode)
  stays (m ∷ ms) stamp moment mode = ap (λ c. value_at moment (invoked_at ms c)) (goes-on stamp m stamp (ap (λ k. lapsed k spec.millis stamp m) mode) (ap (λ k. used k (Some value) stamp m) mode)) ∙ stays ms stamp moment mode

  -- a value at a moment, by whether its time is over
  at-last : (stamp moment : ℕ) → lapsed spec.mode spec.millis stamp moment ≡ nat_le (stamp + spec.millis) moment → value_at moment (holding spec value stamp) ≡ (if nat_lt moment (stamp + spec.millis) then Some value else None)
  at-last stamp moment timed = by (nat_lt moment (stamp + spec.millis)) refl
    where
      by : (before : Bool) → nat_lt moment (stamp + spec.millis) ≡ before → value_at moment (holding spec value stamp) ≡ (if before then Some value else None)
      by true is = passed (lapsed spec.mode spec.millis stamp moment) None (Some value) (timed ∙ lt-leb (stamp + spec.millis) moment (ltb-true moment (stamp + spec.millis) is))
      by false is = chosen (lapsed spec.mode spec.millis stamp moment) None (Some value) (timed ∙ le-leb (stamp + spec.millis) moment (ltb-false moment (stamp + spec.millis) is))

  pub from-write : (moments : List ℕ) (stamp moment : ℕ) → spec.mode ≡ AfterWrite → up_to moment moments ≡ true
      → value_at moment (invoked_at moments (holding spec value stamp)) ≡ (if nat_lt moment (stamp + spec.millis) then Some value else None)
  from-write [] stamp moment mode up = at-last stamp moment (ap (λ k. lapsed k spec.millis stamp moment) mode)
  from-write (m ∷ ms) stamp moment mode up = by (nat_le (stamp + spec.millis) m) refl (from-write ms stamp moment mode (second_so (nat_le m moment) (up_to moment ms) up))
    where
      timed : lapsed spec.mode spec.millis stamp m ≡ nat_le (stamp + spec.millis) m
      timed = ap (λ k. lapsed k spec.millis stamp m) mode

      by : (over : Bool) → nat_le (stamp + spec.millis) m ≡ over → value_at moment (invoked_at ms (holding spec value stamp)) ≡ (if nat_lt moment (stamp + spec.millis) then Some value else None)
          → value_at moment (invoked_at ms (invoked m (holding spec value stamp))) ≡ (if nat_lt moment (stamp + spec.millis) then Some value else None)
      by true is more =
          let late : nat_lt moment (stamp + spec.millis) ≡ false = le-ltb moment (stamp + spec.millis) (omega (arith, leb-true (stamp + spec.millis) m is, leb-true m moment (first_so (nat_le m moment) (up_to moment ms) up))) in
          ap (λ c. value_at moment (invoked_at ms c)) (ends stamp m (timed ∙ is)) ∙ gone-at ms spec moment ∙ sym (passed (nat_lt moment (stamp + spec.millis)) (Some value) None late)
      by false is more = ap (λ c. value_at moment (invoked_at ms c)) (goes-on stamp m stamp (timed ∙ is) (ap (λ k. used k (Some value) stamp m) mode)) ∙ more

  pub from-use : (moments : List ℕ) (stamp moment : ℕ) → spec.mode ≡ AfterInvoke
      → value_at moment (invoked_at moments (holding spec value stamp)) ≡ (if never_pauses spec.millis stamp (moments ++ moment ∷ []) then Some value else None)
  from-use [] stamp moment mode = at-last stamp moment (ap (λ k. lapsed k spec.millis stamp moment) mode) ∙ ap (λ t. if t then Some value else None) (sym (and-true (nat_lt moment (stamp + spec.millis))))
    where
      and-true : (b : Bool) → (b && true) ≡ b
      and-true true = refl
      and-true false = refl
  from-use (m ∷ ms) stamp moment mode = by (nat_lt m (stamp + spec.millis)) refl (from-use ms m moment mode)
    where
      timed : lapsed spec.mode spec.millis stamp m ≡ nat_le (stamp + spec.millis) m
      timed = ap (λ k. lapsed k spec.millis stamp m) mode

      by : (soon : Bool) → nat_lt m (stamp + spec.millis) ≡ soon → value_at moment (invoked_at ms (holding spec value m)) ≡ (if never_pauses spec.millis m (ms ++ moment ∷ []) then Some value else None)
          → value_at moment (invoked_at ms (invoked m (holding spec value stamp))) ≡ (if soon && never_pauses spec.millis m (ms ++ moment ∷ []) then Some value else None)
      by true is more = ap (λ c. value_at moment (invoked_at ms c)) (goes-on stamp m m (timed ∙ lt-leb (stamp + spec.millis) m (ltb-true m (stamp + spec.millis) is)) (ap (λ k. used k (Some value) stamp m) mode)) ∙ more
      by false is more = ap (λ c. value_at moment (invoked_at ms c)) (ends stamp m (timed ∙ le-leb (stamp + spec.millis) m (ltb-false m (stamp + spec.millis) is))) ∙ gone-at ms spec moment
