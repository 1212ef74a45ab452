-- What holds of each endpoint holds of the one that an address has.
use Rattle.std.proofs.Common.{◌≡◌, ◌≤◌, refl, sym, ◌∙◌, subst, List, [], ◌∷◌, cond, Bool, true, false, Option, Some, None, arith}
use Rattle.std.proofs.lemmas.Bool.{ltb-true}
use Rattle.std.specs.Prelude.{IsTrue, IfSome, find, nat_lt, nat_le, map, ◌&&◌}
use Rattle.std.specs.List.{AllByRecursion, list_all}
use Rattle.std.specs.Option.{option_copied}
use Rattle.std.specs.Borrow.{Bor}
use Rattle.std.specs.Cmp.{first_so, second_so}
use Rattle.typed_values.specs.declared.name.TypeName.{TypeName}
use Rattle.typed_values.specs.Pattern.{same_pattern}
use Rattle.typed_values.specs.Sameness.{same_name}
use Rattle.address_routing.specs.declared.module.Module.{Module}
use Rattle.address_routing.specs.declared.module.Endpoint.{Endpoint}
use Rattle.address_routing.specs.declared.module.IngressSpec.{IngressSpec}
use Rattle.address_routing.specs.Routing.{endpoint_of, is_exact, is_wide, or_else, is_usable, is_routable, all_apart, is_served, splits_in}
use Rattle.statefun_driver.specs.Runs.{AreModest}

found_in : {A : Type 0} (P : A → Type 0) (test : A → Bool) (xs : List A) (x : A) → find test xs ≡ Some x → AllByRecursion P xs → P x
found_in P test [] x e all = absurd cc
found_in {A} P test (y ∷ ys) x e all = by (test y) e (λ later. found_in P test ys x later all.1)
  where
    by : (t : Bool) → cond {A = Option A} t (Some y) (find test ys) ≡ Some x → (find test ys ≡ Some x → P x) → P x
    by true e more = let same : y ≡ x = cc in subst P same all.0
    by false e more = more e

passing : {A : Type 0} (test : A → Bool) (xs : List A) → list_all test xs ≡ true → AllByRecursion (λ x. IsTrue (test x)) xs
passing test [] e = tt
passing test (x ∷ xs) e = (first_so (test x) (list_all test xs) e, passing test xs (second_so (test x) (list_all test xs) e))

endpoint_in : (P : Endpoint → Type 0) (m : Module) (kind : TypeName) (endpoint : Endpoint) → endpoint_of m kind ≡ Some endpoint → AllByRecursion P m.endpoints → P endpoint
unfolding endpoint_of
endpoint_in P m kind endpoint e all = by (find (is_exact kind) m.endpoints) refl e
  where
    by : (o : Option Endpoint) → find (is_exact kind) m.endpoints ≡ o → or_else o (find (is_wide kind) m.endpoints) ≡ Some endpoint → P endpoint
    by None is e = found_in P (is_wide kind) m.endpoints endpoint e all
    by (Some other) is e = found_in P (is_exact kind) m.endpoints endpoint (is ∙ e) all

fourth : (a b c d e f g : Bool) → (a && b && c && d && e && f && g) ≡ true → d ≡ true
fourth a b c d e f g h = second_so (a && b && c) d (first_so (a && b && c && d) e (first_so (a && b && c && d && e) f (first_so (a && b && c && d && e && f) g h)))

usable_all : (m : Module) → IsTrue (is_routable m) → list_all is_usable m.endpoints ≡ true
usable_all m h =
    fourth (all_apart same_pattern (map (λ (endpoint : Endpoint). endpoint.pattern) m.endpoints))
    (all_apart same_name (map (λ (ingress : IngressSpec). ingress.id) m.ingresses)) (all_apart same_name m.egresses) (list_all is_usable m.endpoints)
    (list_all (is_served m) m.ingresses) (nat_lt 0 (splits_in m.ingresses)) (nat_le (splits_in m.ingresses) 32) h

pub endpoint_usable : (m : Module) (kind : TypeName) (o : Option (Bor Endpoint)) → option_copied o ≡ endpoint_of m kind → IsTrue (is_routable m) → IfSome o (λ endpoint. IsTrue (is_usable endpoint.now))
endpoint_usable m kind None e h = tt
endpoint_usable m kind (Some endpoint) e h = endpoint_in (λ (x : Endpoint). IsTrue (is_usable x)) m kind endpoint.now (sym e) (passing is_usable m.endpoints (usable_all m h))

pub endpoint_modest : (m : Module) (kind : TypeName) (o : Option (Bor Endpoint)) → option_copied o ≡ endpoint_of m kind → AreModest m.endpoints → IfSome o (λ endpoint. endpoint.now.attempts ≤ 100)
endpoint_modest m kind None e all = tt
endpoint_modest m kind (Some endpoint) e all = (endpoint_in (λ (x : Endpoint). (x.attempts ≤ 100) × (x.max_bytes ≤ 8388608)) m kind endpoint.now (sym e) all).0

-- a batch may have a letter
pub usable_some : (endpoint : Endpoint) → IsTrue (is_usable endpoint) → 1 ≤ endpoint.max_letters
usable_some endpoint h = let some = ltb-true 0 endpoint.max_letters (first_so (nat_lt 0 endpoint.max_letters) (nat_lt 0 endpoint.attempts) (first_so (nat_lt 0 endpoint.max_letters && nat_lt 0 endpoint.attempts) (nat_lt 0 endpoint.patience) h)) in omega (arith, some)
