-- No two cells have one name, and what a request carries of them.
use Rattle.std.proofs.Common.{◌≡◌, ◌∙◌, sym, ap, subst, refl, ℕ, List, [], ◌∷◌, ◌++◌, Bool, true, false, cond, map, Option, Some, None, is_some, option_and_then}
use Rattle.std.specs.Prelude.{IfSome}
use Rattle.std.specs.List.{AllByRecursion}
use Rattle.std.specs.Cmp.Lexicographic.{bytes_decides}
use Rattle.std.proofs.lemmas.Option.{same_Some}
use Rattle.typed_values.specs.declared.address.Address.{Address}
use Rattle.typed_values.specs.declared.value.TypedValue.{TypedValue}
use Rattle.typed_values.specs.declared.letter.Sender.{Sender}
use Rattle.typed_values.specs.declared.letter.Letter.{Letter}
use Rattle.typed_values.specs.declared.cell.CellSpec.{CellSpec}
use Rattle.typed_values.specs.declared.cells.Cell.{Cell}
use Rattle.typed_values.specs.Sameness.{same_bytes}
use Rattle.typed_values.specs.Cells.{found, is_named, value_at, empty, emptied, written, changed, invoked}
use Rattle.request_reply.specs.declared.request.ToFunction.{ToFunction}
use Rattle.state_cells.specs.Lifetimes.{Call, Registers, Modifies, Deletes, Invokes, after, after_all}
use Rattle.address_routing.specs.declared.module.Module.{Module}
use Rattle.address_routing.specs.declared.module.Endpoint.{Endpoint}
use Rattle.address_routing.specs.Routing.{endpoint_of}
use Rattle.invocation.specs.Requests.{shipped, request_of}
use Rattle.run_record.specs.Machine.{picked, is_within, request_of_picks}
use Rattle.run_record.specs.Histories.{IsLastWritten, AreLastWritten, CarriesLastWritten}
use Rattle.run_record.proofs.Steps.{some_from_and_then, some_from_if}
use Rattle.run_record.proofs.Written.{invoked_spec, carried_is}

abbrev name_of : Cell → List ℕ
name_of cell = cell.spec.name

-- ---- names

has : List ℕ → List (List ℕ) → Bool
has name [] = false
has name (other ∷ others) = cond (same_bytes name other) true (has name others)

pub AreApart : List (List ℕ) → Type 0
AreApart [] = Unit {0}
AreApart (name ∷ names) = (has name names ≡ false) × AreApart names

-- a name is found where a cell has it
found_has : (name : List ℕ) (cells : List Cell) → is_some (found name cells) ≡ has name (map name_of cells)
unfolding has
found_has name [] = refl
found_has name (cell ∷ cells) = by (is_named name cell) (found_has name cells)
  where
    by : (b : Bool) → is_some (found name cells) ≡ has name (map name_of cells) → is_some (cond b (Some cell) (found name cells)) ≡ cond b true (has name (map name_of cells))
    by true more = refl
    by false more = more

same_itself : (n : List ℕ) → same_bytes n n ≡ true
same_itself n = (bytes_decides n n).1 refl

behind : (b : Bool) (last : List ℕ) (names : List (List ℕ)) → cond b true (has last names) ≡ false → has last names ≡ false
behind true last names e = absurd cc
behind false last names e = e

-- a name that is new is not the first
not_first : (name last : List ℕ) (names : List (List ℕ)) → has last (name ∷ names) ≡ false → same_bytes name last ≡ false
unfolding has
not_first name last names new = by (same_bytes name last) refl
  where
    by : (b : Bool) → same_bytes name last ≡ b → b ≡ false
    by false e = refl
    by true e =
        let same : same_bytes last name ≡ true = subst (λ n. same_bytes last n ≡ true) (sym ((bytes_decides name last).0 e)) (same_itself last) in
        let both : true ≡ false = sym (ap (λ b. cond b true (has last names)) same) ∙ new in
        absurd cc

has_push : (name last : List ℕ) (others : List (List ℕ)) → same_bytes name last ≡ false → has name others ≡ false → has name (others ++ last ∷ []) ≡ false
unfolding has
has_push name last [] other e = ap (λ b. cond b true false) other
has_push name last (o ∷ others) other e = by (same_bytes name o) (has_push name last others other) e
  where
    by : (b : Bool) → (has name others ≡ false → has name (others ++ last ∷ []) ≡ false) → cond b true (has name others) ≡ false → cond b true (has name (others ++ last ∷ [])) ≡ false
    by true more f = absurd cc
    by false more f = more f

apart_push : (names : List (List ℕ)) (last : List ℕ) → AreApart names → has last names ≡ false → AreApart (names ++ last ∷ [])
unfolding AreApart has
apart_push [] last apart new = (refl, tt)
apart_push (name ∷ names) last apart new = (has_push name last names (not_first name last names new) apart.0, apart_push names last apart.1 (behind (same_bytes last name) last names new))

-- ---- calls keep names apart

names_push : (cells : List Cell) (spec : CellSpec) → map name_of (cells ++ empty spec ∷ []) ≡ map name_of cells ++ spec.name ∷ []
names_push [] spec = refl
names_push (cell ∷ cells) spec = ap (λ ns. name_of cell ∷ ns) (names_push cells spec)

names_changed : (change : Cell → Cell) → ((cell : Cell) → (change cell).spec ≡ cell.spec) → (name : List ℕ) (cells : List Cell) → map name_of (changed change name cells) ≡ map name_of cells
names_changed change keeps name [] = refl
names_changed change keeps name (cell ∷ cells) = by (is_named name cell) (names_changed change keeps name cells)
  where
    by : (b : Bool) → map name_of (changed change name cells) ≡ map name_of cells → map name_of (cond b (change cell ∷ cells) (cell ∷ changed change name cells)) ≡ name_of cell ∷ map name_of cells
    by true more = ap (λ (spec : CellSpec). spec.name ∷ map name_of cells) (keeps cell)
    by false more = ap (λ ns. name_of cell ∷ ns) more

names_invoked : (moment : ℕ) (cells : List Cell) → map name_of (map (invoked moment) cells) ≡ map name_of cells
names_invoked moment [] = refl
names_invoked moment (cell ∷ cells) =
    ap (λ (spec : CellSpec). spec.name ∷ map name_of (map (invoked moment) cells)) (invoked_spec [] moment cell) ∙ ap (λ ns. name_of cell ∷ ns) (names_invoked moment cells)

abbrev Apart : List Cell → Type 0
Apart cells = AreApart (map name_of cells)

apart_after : (call : Call) (cells : List Cell) → Apart cells → Apart (after call cells)
apart_after (Registers spec) cells apart = by (is_some (found spec.name cells)) refl
  where
    by : (b : Bool) → is_some (found spec.name cells) ≡ b → Apart (cond b cells (cells ++ empty spec ∷ []))
    by true e = apart
    by false e = subst AreApart (sym (names_push cells spec)) (apart_push (map name_of cells) spec.name apart (sym (found_has spec.name cells) ∙ e))
apart_after (Modifies name value moment) cells apart = subst AreApart (sym (names_changed (written value moment) (λ cell. refl) name cells)) apart
apart_after (Deletes name) cells apart = subst AreApart (sym (names_changed emptied (λ cell. refl) name cells)) apart
apart_after (Invokes moment) cells apart = subst AreApart (sym (names_invoked moment cells)) apart

apart_all : (calls : List Call) (cells : List Cell) → Apart cells → Apart (after_all calls cells)
apart_all [] cells apart = apart
apart_all (call ∷ calls) cells apart = apart_all calls (after call cells) (apart_after call cells apart)

-- each cell is the one that is found by its name
abbrev Finds : List Cell → Cell → Type 0
Finds all cell = found cell.spec.name all ≡ Some cell

finds_behind : (first : Cell) (all : List Cell) → has first.spec.name (map name_of all) ≡ false → (cells : List Cell) → AllByRecursion (Finds all) cells → AllByRecursion (Finds (first ∷ all)) cells
finds_behind first all new [] h = tt
finds_behind first all new (cell ∷ cells) h = (by (is_named cell.spec.name first) refl, finds_behind first all new cells h.1)
  where
    not_new : first.spec.name ≡ cell.spec.name → ⊥
    not_new same =
        let there : has first.spec.name (map name_of all) ≡ true = sym (found_has first.spec.name all) ∙ ap (λ n. is_some (found n all)) same ∙ ap is_some h.0 in
        let both : false ≡ true = sym new ∙ there in
        absurd cc

    by : (b : Bool) → is_named cell.spec.name first ≡ b → cond (is_named cell.spec.name first) (Some first) (found cell.spec.name all) ≡ Some cell
    by true e = absurd (not_new (sym ((bytes_decides cell.spec.name first.spec.name).0 e)))
    by false e = ap (λ b. cond b (Some first) (found cell.spec.name all)) e ∙ h.0

all_found : (cells : List Cell) → Apart cells → AllByRecursion (Finds cells) cells
unfolding AreApart
all_found [] apart = tt
all_found (cell ∷ cells) apart =
    (ap (λ b. cond b (Some cell) (found cell.spec.name cells)) ((bytes_decides cell.spec.name cell.spec.name).1 refl), finds_behind cell cells apart.0 cells (all_found cells apart.1))

-- ---- what a request carries

carried : (calls : List Call) (all : List Cell) (moment : ℕ) → all ≡ after_all calls [] → (cells : List Cell) → AllByRecursion (Finds all) cells → AreLastWritten calls all moment (map (shipped moment) cells)
carried calls all moment made [] h = tt
carried calls all moment made (cell ∷ cells) h = (by (value_at moment cell) refl, carried calls all moment made cells h.1)
  where
    by : (o : Option TypedValue) → value_at moment cell ≡ o → IfSome o (IsLastWritten calls all moment cell.spec.name)
    by None e = tt
    by (Some value) e =
        let is = carried_is cell.spec.name calls all cell value moment made h.0 e in
        record { cell = cell; there = h.0; written = is.0; last = is.1; lives = is.2; in_time = is.3 }

none_named : Apart []
unfolding AreApart
none_named = tt

abbrev given : Address → List Cell → ℕ → Endpoint → List Letter → Option ToFunction
given address cells moment endpoint letters = cond (is_within endpoint letters (request_of address cells moment letters)) (Some (request_of address cells moment letters)) None

pub request_carries : (m : Module) (calls : List Call) (cells : List Cell) (mail : Sender → List TypedValue) (address : Address) (moment : ℕ) (picks : List Sender) (request : ToFunction) → cells ≡ after_all calls []
    → request_of_picks m cells mail address moment picks ≡ Some request → CarriesLastWritten calls cells moment request
unfolding request_of_picks request_of
request_carries m calls cells mail address moment picks request made asked =
    let at = some_from_and_then (λ endpoint. option_and_then (λ letters. given address cells moment endpoint letters) (picked address mail picks)) (endpoint_of m address.kind) request asked in
    let got = some_from_and_then (λ letters. given address cells moment at.0 letters) (picked address mail picks) request at.2 in
    let is = some_from_if (is_within at.0 got.0 (request_of address cells moment got.0)) (Some (request_of address cells moment got.0)) request got.2 in
    subst (CarriesLastWritten calls cells moment) (same_Some (request_of address cells moment got.0) request is.1)
    (carried calls cells moment made cells (all_found cells (subst Apart (sym made) (apart_all calls [] none_named))))
