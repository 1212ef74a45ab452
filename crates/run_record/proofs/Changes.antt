-- Changes of cells, one after the other.
use Rattle.std.proofs.Common.{◌≡◌, ◌∙◌, ap, refl, ℕ, ◌≤◌, List, [], ◌∷◌, ◌++◌, Bool, true, false, cond, map, take, length, Option, Some, None, is_some, option_map, arith, length-append}
use Rattle.std.proofs.lemmas.List.{take-append-le}
use Rattle.typed_values.specs.declared.cell.CellSpec.{CellSpec}
use Rattle.typed_values.specs.declared.cells.Cell.{Cell}
use Rattle.typed_values.specs.declared.value.TypedValue.{TypedValue}
use Rattle.typed_values.specs.Sameness.{same_bytes}
use Rattle.typed_values.specs.Cells.{is_named, is_expired, found, changed, emptied, written, used, invoked, registered, empty}
use Rattle.state_cells.specs.Answers.{taking, clearing}
use Rattle.invocation.specs.declared.effects.Change.{Change}
use Rattle.invocation.specs.declared.effects.Change.TheVariants.{Set, Clear}
use Rattle.invocation.specs.Laws.{Takes, TakesAll}
use Rattle.typed_values.specs.declared.record.Delay.{Delay}
use Rattle.typed_values.specs.Delays.{earliest}
use Rattle.state_cells.specs.Lifetimes.{after}
use Rattle.delayed_messages.specs.Waiting.{TakesDue, best_of}
use Rattle.delayed_messages.specs.Laws.{left_by}
use Rattle.run_record.specs.declared.part.Part.{Part}
use Rattle.run_record.specs.Machine.{nothing, cell_call}
use Rattle.run_record.specs.StateOf.{own_of}

abbrev pub spec_of : Cell → CellSpec
spec_of cell = cell.spec

-- what cells take depends on their declarations alone
abbrev pub SameSpecs : List Cell → List Cell → Type 0
SameSpecs cells others = (name : List ℕ) → option_map spec_of (found name others) ≡ option_map spec_of (found name cells)

taking_same : (value : TypedValue) (o p : Option Cell) → option_map spec_of p ≡ option_map spec_of o → taking value p ≡ taking value o
taking_same value None None e = refl
taking_same value None (Some x) e = absurd cc
taking_same value (Some x) None e = absurd cc
taking_same value (Some x) (Some y) e = let same : y.spec ≡ x.spec = cc in ap (λ (spec : CellSpec). taking value (Some (record { spec = spec; value = None; stamp = 0 }))) same

clearing_same : (o p : Option Cell) → option_map spec_of p ≡ option_map spec_of o → clearing p ≡ clearing o
clearing_same None None e = refl
clearing_same None (Some x) e = absurd cc
clearing_same (Some x) None e = absurd cc
clearing_same (Some x) (Some y) e = refl

takes_same : (cells others : List Cell) → SameSpecs cells others → (change : Change) → Takes cells change → Takes others change
takes_same cells others same (Set name value) takes = (takes.0, taking_same value (found name cells) (found name others) (same name) ∙ takes.1)
takes_same cells others same (Clear name) takes = clearing_same (found name cells) (found name others) (same name) ∙ takes

pub takes_all_same : (cells others : List Cell) → SameSpecs cells others → (changes : List Change) → TakesAll cells changes → TakesAll others changes
takes_all_same cells others same [] takes = tt
takes_all_same cells others same (change ∷ changes) takes = (takes_same cells others same change takes.0, takes_all_same cells others same changes takes.1)

invoked_spec : (moment : ℕ) (cell : Cell) → (invoked moment cell).spec ≡ cell.spec
invoked_spec moment cell = by (is_expired moment cell)
  where
    by : (b : Bool) → (cond b (emptied cell) (record { spec = cell.spec; value = cell.value; stamp = used cell.spec.mode cell.value cell.stamp moment })).spec ≡ cell.spec
    by true = refl
    by false = refl

pub specs_invoked : (moment : ℕ) (cells : List Cell) → SameSpecs cells (map (invoked moment) cells)
specs_invoked moment [] name = refl
specs_invoked moment (cell ∷ cells) name =
    ap (λ (spec : CellSpec). option_map spec_of (cond (same_bytes name spec.name) (Some (invoked moment cell)) (found name (map (invoked moment) cells)))) (invoked_spec moment cell)
    ∙ by (same_bytes name cell.spec.name) (specs_invoked moment cells name)
  where
    by : (b : Bool) → option_map spec_of (found name (map (invoked moment) cells)) ≡ option_map spec_of (found name cells) → option_map spec_of (cond b (Some (invoked moment cell)) (found name (map (invoked moment) cells))) ≡ option_map spec_of (cond b (Some cell) (found name cells))
    by true more = ap Some (invoked_spec moment cell)
    by false more = more

found_in : (name : List ℕ) (cell first : Cell) (cells rest : List Cell) → first.spec ≡ cell.spec → option_map spec_of (found name rest) ≡ option_map spec_of (found name cells) → option_map spec_of (found name (first ∷ rest)) ≡ option_map spec_of (found name (cell ∷ cells))
found_in name cell first cells rest same more =
    ap (λ (spec : CellSpec). option_map spec_of (cond (same_bytes name spec.name) (Some first) (found name rest))) same ∙ go (same_bytes name cell.spec.name)
  where
    go : (t : Bool) → option_map spec_of (cond t (Some first) (found name rest)) ≡ option_map spec_of (cond t (Some cell) (found name cells))
    go true = ap Some same
    go false = more

pub specs_changed : (change : Cell → Cell) → ((cell : Cell) → (change cell).spec ≡ cell.spec) → (at : List ℕ) (cells : List Cell) → SameSpecs cells (changed change at cells)
specs_changed change keeps at [] name = refl
specs_changed change keeps at (cell ∷ cells) name = by (is_named at cell) (specs_changed change keeps at cells name)
  where
    by : (here : Bool) → option_map spec_of (found name (changed change at cells)) ≡ option_map spec_of (found name cells) → option_map spec_of (found name (cond here (change cell ∷ cells) (cell ∷ changed change at cells))) ≡ option_map spec_of (found name (cell ∷ cells))
    by true more = found_in name cell (change cell) cells cells (keeps cell) refl
    by false more = found_in name cell cell cells (changed change at cells) refl more

-- a registration leaves what was there in front
pub registered_front : (spec : CellSpec) (cells : List Cell) (n : ℕ) → n ≤ length cells → (take n (registered spec cells) ≡ take n cells) × (length cells ≤ length (registered spec cells))
registered_front spec cells n inside = by (is_some (found spec.name cells))
  where
    by : (b : Bool) → (take n (cond b cells (cells ++ empty spec ∷ [])) ≡ take n cells) × (length cells ≤ length (cond b cells (cells ++ empty spec ∷ [])))
    by true = (refl, omega arith)
    by false = (take-append-le n cells (empty spec ∷ []) inside, omega (arith, length-append cells (empty spec ∷ [])))

-- a change leaves what cells take
pub takes_after : (moment : ℕ) (change : Change) (cells : List Cell) (rest : List Change) → TakesAll cells rest → TakesAll (after (cell_call moment change) cells) rest
takes_after moment (Set name value) cells rest takes = takes_all_same cells (changed (written value moment) name cells) (specs_changed (written value moment) (λ cell. refl) name cells) rest takes
takes_after moment (Clear name) cells rest takes = takes_all_same cells (changed emptied name cells) (specs_changed emptied (λ cell. refl) name cells) rest takes

-- what a question for the due delay leaves
pub left_due : (due : Option (Delay × List Delay)) (old new : List Delay) (result : Option Delay) → TakesDue due old result new → new ≡ left_by old due
left_due None old new result takes = takes.1
left_due (Some due) old new result takes = takes.1

-- without cells, moment and delays a part is nothing
none_first : (delays : List Delay) → None ≡ option_map best_of (earliest delays) → delays ≡ []
none_first [] e = refl
none_first (delay ∷ delays) e = absurd cc

no_cells : (cells : List Cell) → length cells ≤ 0 → cells ≡ []
no_cells [] e = refl
no_cells (cell ∷ cells) e = absurd (omega (arith, e))

pub is_nothing : (part : Part) → length part.cells ≤ 0 → part.seen ≤ 0 → None ≡ option_map best_of (earliest part.delays.delays) → own_of part ≡ nothing
is_nothing part cells seen first =
    let none : part.seen ≡ 0 = omega (arith, seen) in
    λ i. record { taken = 0; cells = no_cells part.cells cells i; seen = none i; delays = none_first part.delays.delays first i }
