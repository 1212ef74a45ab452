-- Maps that say the same of each key.
use Rattle.std.proofs.Common.{◌≡◌, ◌∙◌, sym, ap, refl, List, [], ◌∷◌, Bool, true, false, Option, Some, None, cond, unwrap_or}
use Rattle.std.specs.Prelude.{◌↔◌, IsTrue}
use mathlib.Core.Path.{fun_ext}
use Rattle.std.specs.Cmp.{IsTotalOrder}
use Rattle.std.specs.declared.cmp.Ordering.{Ordering}
use Rattle.std.specs.BTreeMap.{BTreeMap, get, IsOrdered, is_at}
use Rattle.std.specs.Map.{lookup}
use Rattle.std.proofs.lemmas.List.Elements.{All-contains, All-from_recursion, recursion_from_All, All-weaker}
use Rattle.std.proofs.lemmas.Map.Views.{All-found, btree_map_get_iff}
use Rattle.keyed_queues.specs.declared.shelf.Shelf.{Shelf}
use Rattle.keyed_queues.specs.Queues.{AreExact, AreBlank, AreReadIn, list_at, list_in, lists_of}

module _ {K V M : Type 0} {R : K → K → Ordering} (total : IsTotalOrder R) (exact : AreExact R) (read : Option V → M) where
  -- each entry is read alike at each key that is there
  pub read_in : (m n : BTreeMap K V) → IsOrdered R m → ((key : K) → read (get R m key) ≡ read (get R n key)) → AreReadIn R read n m.entries
  read_in m n ordered same =
      recursion_from_All (λ (entry : K × V). read (Some entry.1) ≡ read (get R n entry.0)) m.entries
      (All-weaker (λ (entry : K × V). get R m entry.0 ≡ Some entry.1) (λ (entry : K × V). read (Some entry.1) ≡ read (get R n entry.0))
      (λ entry found. ap read (sym found) ∙ same entry.0) m.entries (All-found total m ordered))

  read_at : (m n : BTreeMap K V) → IsOrdered R m → AreReadIn R read n m.entries → (key : K) (value : V) → get R m key ≡ Some value → read (get R m key) ≡ read (get R n key)
  read_at m n ordered all key value found =
      ap read found ∙ All-contains (λ (entry : K × V). read (Some entry.1) ≡ read (get R n entry.0)) m.entries (key, value)
      (All-from_recursion (λ (entry : K × V). read (Some entry.1) ≡ read (get R n entry.0)) m.entries all) ((btree_map_get_iff total exact m ordered key value).0 found)

  pub by_both : (m n : BTreeMap K V) → IsOrdered R m → IsOrdered R n → AreReadIn R read n m.entries → AreReadIn R read m n.entries → (key : K) → read (get R m key) ≡ read (get R n key)
  by_both m n first second there back key = by_cases (get R m key) (get R n key) refl refl
    where
      by_cases : (one other : Option V) → get R m key ≡ one → get R n key ≡ other → read (get R m key) ≡ read (get R n key)
      by_cases (Some value) other e f = read_at m n first there key value e
      by_cases None (Some value) e f = sym (read_at n m second back key value f)
      by_cases None None e f = ap read (e ∙ sym f)

-- no key has a value exactly where each list is empty
module _ {K X : Type 0} {R : K → K → Ordering} (total : IsTotalOrder R) where
  blank_in : (key : K) (entries : List (K × List X)) → AreBlank entries → unwrap_or (lookup (is_at (R key)) entries) [] ≡ []
  blank_in key [] all = refl
  blank_in key (entry ∷ entries) all = by_test (is_at (R key) entry.0) (blank_in key entries all.1)
    where
      by_test : (t : Bool) → unwrap_or (lookup (is_at (R key)) entries) [] ≡ [] → unwrap_or (cond t (Some entry.1) (lookup (is_at (R key)) entries)) [] ≡ []
      by_test true rest = all.0
      by_test false rest = rest

  pub blank_at : (m : BTreeMap K (List X)) → AreBlank m.entries → (key : K) → list_at R m key ≡ []
  blank_at m all key = blank_in key m.entries all

  pub each_blank : (m : BTreeMap K (List X)) → IsOrdered R m → ((key : K) → list_at R m key ≡ []) → AreBlank m.entries
  each_blank m ordered none =
      recursion_from_All (λ (entry : K × List X). entry.1 ≡ []) m.entries
      (All-weaker (λ (entry : K × List X). get R m entry.0 ≡ Some entry.1) (λ (entry : K × List X). entry.1 ≡ [])
      (λ entry found. ap (λ o. unwrap_or o []) (sym found) ∙ none entry.0) m.entries (All-found total m ordered))

-- lists of an outer key, as a function of the inner one
module _ {A B X : Type 0} (R : A → A → Ordering) (S : B → B → Ordering) where
  pub at_inner : (m n : BTreeMap A (Shelf B X)) (a : A) → lists_of S (get R m a) ≡ lists_of S (get R n a) → (b : B) → list_in R S m a b ≡ list_in R S n a b
  at_inner m n a same b = ap (λ f. f b) same

  pub over_inner : (m n : BTreeMap A (Shelf B X)) (a : A) → ((b : B) → list_in R S m a b ≡ list_in R S n a b) → lists_of S (get R m a) ≡ lists_of S (get R n a)
  over_inner m n a same = fun_ext same

  -- a shelf beside the one that stands at an outer key, or beside none
  pub beside_some : (shelf own : Shelf B X) (o : Option (Shelf B X)) → Some own ≡ o → (t : Bool) → (IsTrue t ↔ ((b : B) → list_at S shelf.queues b ≡ list_at S own.queues b)) → IsTrue t ↔ (lists_of S (Some shelf) ≡ lists_of S o)
  beside_some shelf own o is t told = (
    λ e. fun_ext (told.0 e) ∙ ap (lists_of S) is,
    λ same. told.1 (λ b. ap (λ f. f b) (same ∙ sym (ap (lists_of S) is))),
  )

  pub beside_none : (shelf : Shelf B X) (o : Option (Shelf B X)) → None ≡ o → (t : Bool) → (IsTrue t ↔ ((b : B) → list_at S shelf.queues b ≡ [])) → IsTrue t ↔ (lists_of S (Some shelf) ≡ lists_of S o)
  beside_none shelf o is t told = (
    λ e. fun_ext (told.0 e) ∙ ap (lists_of S) is,
    λ same. told.1 (λ b. ap (λ f. f b) (same ∙ sym (ap (lists_of S) is))),
  )
