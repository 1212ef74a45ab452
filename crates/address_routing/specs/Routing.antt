-- Where things go in a job.
use Rattle.std.specs.Prelude.{ℕ, ◌+◌, ◌-◌, nat_eq, nat_lt, nat_le, codes, zero, suc, List, [], ◌∷◌, ◌++◌, Bool, true, false, not, ◌&&◌, if◌then◌else◌}
use Rattle.std.specs.Prelude.{Option, Some, None, is_some, map, find}
use Rattle.std.specs.Option.{option_map, option_map_or}
use Rattle.std.specs.List.{starts_with, list_any, list_all}
use Rattle.typed_values.specs.declared.name.TypeName.{TypeName}
use Rattle.typed_values.specs.Sameness.{same_bytes, same_name}
use Rattle.typed_values.specs.Pattern.{same_pattern}
use Rattle.address_routing.specs.declared.module.Module.{Module}
use Rattle.address_routing.specs.declared.module.Endpoint.{Endpoint}
use Rattle.address_routing.specs.declared.module.IngressSpec.{IngressSpec}

-- the number of splits of some ingresses
abbrev pub splits_in : List IngressSpec → ℕ
splits_in [] = 0
splits_in (ingress ∷ ingresses) = ingress.splits + splits_in ingresses

-- the ingress to which a split belongs: splits are numbered through the ingresses in order
abbrev pub ingress_in : List IngressSpec → ℕ → Option IngressSpec
ingress_in [] split = None
ingress_in (ingress ∷ ingresses) split = if nat_lt split ingress.splits then Some ingress else ingress_in ingresses (split - ingress.splits)

unfoldable pub ingress_of : Module → ℕ → Option IngressSpec
ingress_of m split = ingress_in m.ingresses split

-- the types to which a split's records go
unfoldable pub targets_of : Module → ℕ → List TypeName
targets_of m split = option_map_or (λ ingress. ingress.targets) (ingress_of m split) []

-- a pattern that is this very name; a pattern for the name's whole namespace
abbrev pub is_exact : TypeName → Endpoint → Bool
is_exact kind endpoint = option_map_or (same_bytes kind.name) endpoint.pattern.name false && same_bytes kind.namespace endpoint.pattern.namespace

abbrev pub is_wide : TypeName → Endpoint → Bool
is_wide kind endpoint = option_map_or (λ _. false) endpoint.pattern.name true && same_bytes kind.namespace endpoint.pattern.namespace

abbrev pub or_else : {A : Type 0} → Option A → Option A → Option A
or_else (Some x) other = Some x
or_else None other = other

-- the endpoint of a type: the one with that very name, else the one of its namespace
unfoldable pub endpoint_of : Module → TypeName → Option Endpoint
endpoint_of m kind = or_else (find (is_exact kind) m.endpoints) (find (is_wide kind) m.endpoints)

-- whether there is an egress of that name in that namespace
abbrev pub is_called : List ℕ → List ℕ → TypeName → Bool
is_called namespace name egress = same_bytes egress.namespace namespace && same_bytes egress.name name

abbrev pub knows_egress : Module → List ℕ → List ℕ → Bool
knows_egress m namespace name = list_any (is_called namespace name) m.egresses

-- ---- modules whose records have a way to go

-- no two items of a list are the same
abbrev pub all_apart : {A : Type 0} → (A → A → Bool) → List A → Bool
all_apart same [] = true
all_apart same (x ∷ xs) = not (list_any (same x) xs) && all_apart same xs

-- at least one letter a batch, one attempt, and one poll for each attempt
abbrev pub is_usable : Endpoint → Bool
is_usable endpoint = nat_lt 0 endpoint.max_letters && nat_lt 0 endpoint.attempts && nat_lt 0 endpoint.patience

-- each target of an ingress has an endpoint
abbrev pub is_served : Module → IngressSpec → Bool
is_served m ingress = list_all (λ target. is_some (endpoint_of m target)) ingress.targets

-- patterns, ingress ids and egress ids stand once each, endpoints are usable, all targets have one, and there are 1 to 32 splits
abbrev pub is_routable : Module → Bool
is_routable m =
    all_apart same_pattern (map (λ (endpoint : Endpoint). endpoint.pattern) m.endpoints)
    && all_apart same_name (map (λ (ingress : IngressSpec). ingress.id) m.ingresses)
    && all_apart same_name m.egresses
    && list_all is_usable m.endpoints
    && list_all (is_served m) m.ingresses
    && nat_lt 0 (splits_in m.ingresses)
    && nat_le (splits_in m.ingresses) 32

-- ---- URLs

-- a template with each `{function.name}` in it replaced by the name; so many bytes in front are passed over
abbrev pub filled_from : List ℕ → ℕ → List ℕ → List ℕ
filled_from name skip [] = []
filled_from name (suc skip) (byte ∷ bytes) = filled_from name skip bytes
filled_from name zero (byte ∷ bytes) =
    if starts_with nat_eq (byte ∷ bytes) (codes "{function.name}")
    then name ++ filled_from name 14 bytes
    else byte ∷ filled_from name zero bytes

unfoldable pub filled : List ℕ → List ℕ → List ℕ
filled name template = filled_from name 0 template

-- the URL at which a type's functions are called
unfoldable pub url_of : Module → TypeName → Option (List ℕ)
url_of m kind = option_map (λ endpoint. filled kind.name endpoint.template) (endpoint_of m kind)
