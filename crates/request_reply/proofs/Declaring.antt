-- Missing values, one after the other.
use Rattle.std.proofs.Common.{◌≡◌, ℕ, ◌+◌, Bool, true, false, cond, List, [], ◌∷◌, ◌++◌, length, map, append_assoc, append-nil, length-append, Option, Some, None, is_none, refl, sym, ap, ◌∙◌, arith}
use Rattle.typed_values.specs.declared.cell.CellSpec.{CellSpec}
use Rattle.typed_values.specs.declared.cells.Cell.{Cell}
use Rattle.typed_values.specs.Cells.{is_named, found, empty, registered}
use Rattle.request_reply.specs.declared.answer.PersistedValueSpec.{PersistedValueSpec}
use Rattle.request_reply.specs.declared.flaw.FlawKind.{FlawKind}
use Rattle.request_reply.specs.declared.flaw.Flaw.{Flaw}
use Rattle.request_reply.specs.Flaws.{type_in, type_of, declared, added, missing_flaw, first_of_two, placed, flaw_at, first_missing, none_new, incomplete_flaw}

-- ---- a name among cells and others behind them

pub type-first : (name typename : List ℕ) (cells others : List Cell) → type_of name cells ≡ Some typename → type_of name (cells ++ others) ≡ Some typename
type-first name typename [] others e = absurd cc
type-first name typename (cell ∷ cells) others e = by_name (is_named name cell) (type-first name typename cells others) e
  where
    by_name : (b : Bool) → (type_of name cells ≡ Some typename → type_of name (cells ++ others) ≡ Some typename) → type_in (cond b (Some cell) (found name cells)) ≡ Some typename → type_in (cond b (Some cell) (found name (cells ++ others))) ≡ Some typename
    by_name true later e = e
    by_name false later e = later e

pub type-behind : (name : List ℕ) (cells others : List Cell) → type_of name cells ≡ None → type_of name (cells ++ others) ≡ type_of name others
type-behind name [] others e = refl
type-behind name (cell ∷ cells) others e = by_name (is_named name cell) (type-behind name cells others) e
  where
    by_name : (b : Bool) → (type_of name cells ≡ None → type_of name (cells ++ others) ≡ type_of name others) → type_in (cond b (Some cell) (found name cells)) ≡ None → type_in (cond b (Some cell) (found name (cells ++ others))) ≡ type_of name others
    by_name true later e = absurd cc
    by_name false later e = later e

-- ---- how far a list of missing values was gone through

-- none of the values before the rest has a flaw, and they add these cells
pub record Reached (cells : List Cell) (values : List PersistedValueSpec) (new : List CellSpec) (at : ℕ) (rest : List PersistedValueSpec) : Type 0 where
  pub flaw : first_missing cells 0 values ≡ first_missing (cells ++ map empty new) at rest
  pub adds : added cells values ≡ new ++ added (cells ++ map empty new) rest
  pub place : at + length rest ≡ length values

pub reached-none : (cells : List Cell) (values : List PersistedValueSpec) → Reached cells values [] 0 values
reached-none cells values = record { flaw = rw append-nil refl; adds = rw append-nil refl; place = omega arith }

-- the cell of a declaration stands behind those of the others
empty-behind : (cells : List Cell) (new : List CellSpec) (spec : CellSpec) → (cells ++ map empty new) ++ empty spec ∷ [] ≡ cells ++ map empty (new ++ spec ∷ [])
empty-behind cells new spec = append_assoc cells (map empty new) (empty spec ∷ []) ∙ ap (λ others. cells ++ others) (one-behind new)
  where
    one-behind : (new : List CellSpec) → map empty new ++ empty spec ∷ [] ≡ map empty (new ++ spec ∷ [])
    one-behind [] = refl
    one-behind (x ∷ xs) = ap (λ others. empty x ∷ others) (one-behind xs)

-- a name that is known adds no cell, and one that is new adds its cell behind the others
pub reached-next : (cells : List Cell) (values : List PersistedValueSpec) (new next : List CellSpec) (at : ℕ) (value : PersistedValueSpec) (rest : List PersistedValueSpec)
    → Reached cells values new at (value ∷ rest)
    → missing_flaw (cells ++ map empty new) value ≡ None
    → next ≡ cond (is_none (type_of value.state_name (cells ++ map empty new))) (new ++ declared value ∷ []) new
    → Reached cells values next (at + 1) rest
reached-next cells values new next at value rest r fine is = by_name (found value.state_name (cells ++ map empty new)) refl is
  where
    place : at + 1 + length rest ≡ length values
    place = let p = r.place in omega arith

    by_name : (o : Option Cell) → found value.state_name (cells ++ map empty new) ≡ o → next ≡ cond (is_none (type_in o)) (new ++ declared value ∷ []) new → Reached cells values next (at + 1) rest
    by_name (Some cell) there is = record {
      flaw = r.flaw ∙ rw (fine, there, is) refl;
      adds = r.adds ∙ rw (there, is) refl;
      place = place;
    }
    by_name None there is = record {
      flaw = r.flaw ∙ rw (fine, there, is, empty-behind cells new (declared value)) refl;
      adds = r.adds ∙ rw (there, is, empty-behind cells new (declared value)) (sym (append_assoc new (declared value ∷ []) (added (cells ++ map empty (new ++ declared value ∷ [])) rest)));
      place = place;
    }

-- ---- the end

pub reached-flaw : (cells : List Cell) (values : List PersistedValueSpec) (new : List CellSpec) (at : ℕ) (value : PersistedValueSpec) (rest : List PersistedValueSpec) (kind : FlawKind)
    → Reached cells values new at (value ∷ rest) → missing_flaw (cells ++ map empty new) value ≡ Some kind → incomplete_flaw cells values ≡ Some (flaw_at kind at)
unfolding incomplete_flaw
reached-flaw cells values new at value rest kind r e =
    let first : first_missing cells 0 values ≡ Some (flaw_at kind at) = r.flaw ∙ rw e refl in
    ap (λ (flaw : Option Flaw). first_of_two flaw (none_new (added cells values))) first

pub reached-end : (cells : List Cell) (values : List PersistedValueSpec) (new : List CellSpec) (at : ℕ) → Reached cells values new at []
    → (incomplete_flaw cells values ≡ none_new new) × (added cells values ≡ new)
unfolding incomplete_flaw
reached-end cells values new at r =
    let adds : added cells values ≡ new = r.adds ∙ append-nil new in
    (ap (λ (flaw : Option Flaw). first_of_two flaw (none_new (added cells values))) r.flaw ∙ ap none_new adds, adds)
