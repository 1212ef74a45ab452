-- The orders of names and texts test sameness; what is noted of one endpoint more.
use Rattle.std.proofs.Common.{◌≡◌, ◌∙◌, sym, ap, subst, ℕ, zero, suc, ◌+◌, ◌<◌, Bool, true, false, cond, List, [], ◌∷◌, ◌++◌, length, drop, take, get_or, arith, Option, Some, None, slice_get, refl}
use Rattle.std.specs.Prelude.{find, ◌&&◌, ◌||◌}
use Rattle.std.specs.List.{list_any}
use Rattle.std.specs.Bool.{Decides}
use Rattle.std.specs.declared.cmp.Ordering.{Ordering}
use Rattle.std.specs.Ordering.{is_eq}
use Rattle.std.specs.Cmp.{IsTotalOrder, eq_by_cmp_equiv}
use Rattle.std.specs.Cmp.Lexicographic.{bytes_decides}
use Rattle.std.proofs.Math.Seq.{drop-cons}
use Rattle.std.proofs.lemmas.List.{take_more}
use Rattle.std.proofs.lemmas.List.Folds.{list_any-append}
use Rattle.std.proofs.lemmas.Cmp.{then_total, on_total, nat_list_cmp_total}
use Rattle.std.proofs.lemmas.Map.Lookups.{CmpEqualImpliesEq, exact_bytes}
use Rattle.std.proofs.lemmas.Map.Views.{tells_apart}
use Rattle.std.proofs.lemmas.Bool.Decides.{same_from_decides}
use Rattle.typed_values.specs.declared.name.TypeName.{TypeName}
use Rattle.typed_values.specs.Sameness.{same_name, same_bytes}
use Rattle.typed_values.proofs.Sameness.{same_name-Decides}
use Rattle.typed_values.proofs.Orders.{exact_names}
use Rattle.address_routing.specs.declared.module.Endpoint.{Endpoint}
use Rattle.address_routing.specs.Routing.{is_exact, is_wide, is_called}
use Rattle.address_routing.specs.Kept.{name_order, text_order, in_set, endpoint_at}
use Rattle.std.specs.BTreeSet.{BTreeSet, contains}

names_total : IsTotalOrder name_order
names_total = then_total (on_total (λ (n : TypeName). n.namespace) nat_list_cmp_total) (on_total (λ (n : TypeName). n.name) nat_list_cmp_total)

tested : {K : Type 0} (order : K → K → Ordering) → IsTotalOrder order → CmpEqualImpliesEq order → (x y : K) → Decides (is_eq (order x y)) (x ≡ y)
tested order total exact x y = (tells_apart exact x y, λ e. subst (λ z. is_eq (order x z) ≡ true) e ((eq_by_cmp_equiv total).refl x))

turned : {K : Type 0} (b : Bool) (x y : K) → Decides b (x ≡ y) → Decides b (y ≡ x)
turned b x y d = (λ e. sym (d.0 e), λ e. d.1 (sym e))

-- a key compares alike with the names that it is
pub name_test : (key name : TypeName) → is_eq (name_order key name) ≡ same_name name key
name_test key name = same_from_decides (is_eq (name_order key name)) (same_name name key) (tested name_order names_total exact_names key name) (turned (same_name name key) name key (same_name-Decides name key))

pub text_test : (key text : List ℕ) → is_eq (text_order key text) ≡ same_bytes text key
text_test key text = same_from_decides (is_eq (text_order key text)) (same_bytes text key) (tested text_order nat_list_cmp_total exact_bytes key text) (turned (same_bytes text key) text key (bytes_decides text key))

both : (a b : Bool) → (a && b) ≡ (b && a)
both false false = refl
both false true = refl
both true false = refl
both true true = refl

-- an endpoint for one name is for what compares alike with that name
pub exact_test : (kind key : TypeName) (endpoint : Endpoint) → endpoint.pattern.name ≡ Some key.name → endpoint.pattern.namespace ≡ key.namespace → is_eq (name_order key kind) ≡ is_exact kind endpoint
unfolding same_name
exact_test kind key endpoint named spaced =
    name_test key kind ∙ both (same_bytes kind.namespace key.namespace) (same_bytes kind.name key.name)
    ∙ sym (λ i. is_exact kind (record endpoint { pattern = record { namespace = spaced i; name = named i } }))

pub wide_test : (kind : TypeName) (key : List ℕ) (endpoint : Endpoint) → endpoint.pattern.name ≡ None → endpoint.pattern.namespace ≡ key → is_eq (text_order key kind.namespace) ≡ is_wide kind endpoint
wide_test kind key endpoint named spaced =
    text_test key kind.namespace ∙ sym (λ i. is_wide kind (record endpoint { pattern = record { namespace = spaced i; name = named i } }))

pub slice_get_within : {A : Type 0} (xs : List A) (k : ℕ) (d : A) → k < length xs → slice_get xs k ≡ Some (get_or xs k d)
slice_get_within [] k d h = absurd (omega (arith, h))
slice_get_within (x ∷ xs) zero d h = refl
slice_get_within (x ∷ xs) (suc k) d h = slice_get_within xs k d (omega (arith, h))

-- the endpoint in front of those that are noted
pub noted_more : (test : Endpoint → Bool) (endpoints : List Endpoint) (place : ℕ) (endpoint : Endpoint) (before after : Option ℕ) →
    place < length endpoints → get_or endpoints place endpoint ≡ endpoint →
    endpoint_at endpoints before ≡ find test (drop (suc place) endpoints) →
    after ≡ cond (test endpoint) (Some place) before →
    endpoint_at endpoints after ≡ find test (drop place endpoints)
noted_more test endpoints place endpoint before after inside here rest now =
    ap (endpoint_at endpoints) now ∙ go (test endpoint) refl ∙ sym (ap (find test) (drop-cons endpoints place endpoint inside ∙ ap (λ e. e ∷ drop (suc place) endpoints) here))
  where
    go : (b : Bool) → test endpoint ≡ b → endpoint_at endpoints (cond b (Some place) before) ≡ cond b (Some endpoint) (find test (drop (suc place) endpoints))
    go true e = slice_get_within endpoints place endpoint inside ∙ ap Some here
    go false e = rest

-- the name behind those that are noted
pub any_more : (names : List TypeName) (place : ℕ) (item : TypeName) (namespace name : List ℕ) (before after : Bool) →
    place < length names → get_or names place item ≡ item →
    before ≡ list_any (is_called namespace name) (take place names) →
    after ≡ cond (is_called namespace name item) true before →
    after ≡ list_any (is_called namespace name) (take (place + 1) names)
any_more names place item namespace name before after inside here rest now =
    now ∙ ap (λ (b : Bool). cond (is_called namespace name item) true b) rest ∙ or_comm (is_called namespace name item) (list_any (is_called namespace name) (take place names))
    ∙ sym (ap (list_any (is_called namespace name)) (take_more names place item inside ∙ ap (λ x. take place names ++ x ∷ []) here) ∙ list_any-append (is_called namespace name) (take place names) (item ∷ []) ∙ ap (λ b. list_any (is_called namespace name) (take place names) || b) (or-false (is_called namespace name item)))
  where
    or-false : (b : Bool) → (b || false) ≡ b
    or-false false = refl
    or-false true = refl

    or_comm : (a b : Bool) → cond a true b ≡ (b || a)
    or_comm false false = refl
    or_comm false true = refl
    or_comm true false = refl
    or_comm true true = refl

-- ---- a name more in its namespace

text_tells : (key text : List ℕ) → is_eq (text_order key text) ≡ same_bytes key text
text_tells key text = same_from_decides (is_eq (text_order key text)) (same_bytes key text) (tested text_order nat_list_cmp_total exact_bytes key text) (bytes_decides key text)

-- the set of the name's namespace has one name more, and all others stay
pub name_more : (egress : TypeName) (namespace name space key : List ℕ) (old new : Option (BTreeSet (List ℕ))) (names set : BTreeSet (List ℕ)) →
    space ≡ egress.namespace → key ≡ egress.name →
    contains text_order set name ≡ cond (is_eq (text_order key name)) true (contains text_order names name) →
    (egress.namespace ≡ namespace → contains text_order names name ≡ in_set name old) →
    new ≡ cond (is_eq (text_order space namespace)) (Some set) (cond (same_bytes namespace egress.namespace) None old) →
    in_set name new ≡ cond (is_called namespace name egress) true (in_set name old)
name_more egress namespace name space key old new names set spaced keyed holds taken now =
    ap (in_set name) (now ∙ ap (λ (b : Bool). cond b (Some set) (cond (same_bytes namespace egress.namespace) None old)) (text_tells space namespace ∙ ap (λ s. same_bytes s namespace) spaced))
    ∙ by_space (same_bytes egress.namespace namespace) refl (same_bytes namespace egress.namespace) refl
  where
    here : egress.namespace ≡ namespace → contains text_order set name ≡ cond (same_bytes egress.name name) true (in_set name old)
    here e = holds ∙ (λ i. cond (test i) true (taken e i))
      where
        test : is_eq (text_order key name) ≡ same_bytes egress.name name
        test = text_tells key name ∙ ap (λ k. same_bytes k name) keyed

    by_space : (b : Bool) → same_bytes egress.namespace namespace ≡ b → (d : Bool) → same_bytes namespace egress.namespace ≡ d
        → in_set name (cond b (Some set) (cond d None old)) ≡ cond (b && same_bytes egress.name name) true (in_set name old)
    by_space true e d f = here ((bytes_decides egress.namespace namespace).0 e)
    by_space false e false f = refl
    by_space false e true f = absurd (let g : same_bytes egress.namespace namespace ≡ true = (bytes_decides egress.namespace namespace).1 (sym ((bytes_decides namespace egress.namespace).0 f)) in cc)
