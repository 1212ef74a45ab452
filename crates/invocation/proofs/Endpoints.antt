-- A type has an endpoint exactly where the patterns have one that is for it.
use Rattle.std.proofs.Common.{◌≡◌, ◌∙◌, sym, ap, refl, Bool, true, false, cond, List, [], ◌∷◌, map, Option, Some, None, is_some}
use Rattle.std.specs.Prelude.{ℕ, ◌&&◌, ◌||◌, find}
use Rattle.std.specs.Option.{option_map_or}
use Rattle.std.specs.List.{list_any}
use Rattle.typed_values.specs.Sameness.{same_bytes}
use Rattle.typed_values.specs.declared.name.TypeName.{TypeName}
use Rattle.typed_values.specs.declared.pattern.TypePattern.{TypePattern}
use Rattle.request_reply.specs.Flaws.{is_pattern_of, has_endpoint}
use Rattle.address_routing.specs.declared.module.Module.{Module}
use Rattle.address_routing.specs.declared.module.Endpoint.{Endpoint}
use Rattle.address_routing.specs.Routing.{is_exact, is_wide, or_else, endpoint_of}

pattern-is : (kind : TypeName) (endpoint : Endpoint) → is_pattern_of kind endpoint.pattern ≡ (is_exact kind endpoint || is_wide kind endpoint)
pattern-is kind endpoint = by_name endpoint.pattern.name (same_bytes kind.namespace endpoint.pattern.namespace)
  where
    by_own : (b c : Bool) → (b && c) ≡ ((b && c) || (false && c))
    by_own true true = refl
    by_own true false = refl
    by_own false true = refl
    by_own false false = refl

    by_name : (name : Option (List ℕ)) (c : Bool) → (option_map_or (same_bytes kind.name) name true && c)
        ≡ ((option_map_or (same_bytes kind.name) name false && c) || (option_map_or (λ _. false) name true && c))
    by_name None true = refl
    by_name None false = refl
    by_name (Some own) c = by_own (same_bytes kind.name own) c

-- one of the first kind, else one of the second: there is one exactly where some element is of a kind
found-any : {A : Type 0} (first second : A → Bool) (xs : List A) → is_some (or_else (find first xs) (find second xs)) ≡ list_any (λ x. first x || second x) xs
found-any first second [] = refl
found-any {A} first second (x ∷ xs) = by_kind (first x) (second x) (found-any first second xs)
  where
    there : (o : Option A) → is_some (or_else o (Some x)) ≡ true
    there None = refl
    there (Some y) = refl

    by_kind : (a b : Bool) → is_some (or_else (find first xs) (find second xs)) ≡ list_any (λ x. first x || second x) xs
        → is_some (or_else (cond a (Some x) (find first xs)) (cond b (Some x) (find second xs))) ≡ ((a || b) || list_any (λ x. first x || second x) xs)
    by_kind true b later = refl
    by_kind false true later = there (find first xs)
    by_kind false false later = later

any-pattern : (kind : TypeName) (endpoints : List Endpoint)
    → list_any (λ (endpoint : Endpoint). is_exact kind endpoint || is_wide kind endpoint) endpoints ≡ has_endpoint (map (λ (endpoint : Endpoint). endpoint.pattern) endpoints) kind
any-pattern kind [] = refl
any-pattern kind (endpoint ∷ endpoints) = (λ i. sym (pattern-is kind endpoint) i || any-pattern kind endpoints i)

pub endpoint-is : (m : Module) (kind : TypeName) → is_some (endpoint_of m kind) ≡ has_endpoint (map (λ (endpoint : Endpoint). endpoint.pattern) m.endpoints) kind
unfolding endpoint_of
endpoint-is m kind = found-any (is_exact kind) (is_wide kind) m.endpoints ∙ any-pattern kind m.endpoints
