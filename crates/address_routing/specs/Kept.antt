-- How routes are kept: by name, where an endpoint stands in the list of all; and the names of the egresses.
use Rattle.std.specs.Prelude.{◌≡◌, ℕ, Bool, false, List, Option, None, Some, find, slice_get, option_and_then}
use Rattle.std.specs.List.{list_any}
use Rattle.std.specs.Ordering.{nat_cmp}
use Rattle.std.specs.declared.cmp.Ordering.{Ordering}
use Rattle.std.specs.Cmp.Lexicographic.{slice_cmp}
use Rattle.std.specs.BTreeMap.{BTreeMap, get}
use Rattle.std.specs.BTreeSet.{BTreeSet, contains}
use Rattle.typed_values.specs.declared.name.TypeName.{TypeName}
use Rattle.typed_values.specs.contracts.name.TypeNameOrd.TheImpl as name_ord
use Rattle.address_routing.specs.declared.module.Module.{Module}
use Rattle.address_routing.specs.declared.module.Endpoint.{Endpoint}
use Rattle.address_routing.specs.Routing.{is_exact, is_wide, is_called}

-- by namespace, and then by name
abbrev pub name_order : TypeName → TypeName → Ordering
name_order = (name_ord.ghosts).cmp

abbrev pub text_order : List ℕ → List ℕ → Ordering
text_order = slice_cmp nat_cmp

abbrev pub endpoint_at : List Endpoint → Option ℕ → Option Endpoint
endpoint_at endpoints place = option_and_then (slice_get endpoints) place

-- names by namespace: whether one is there
abbrev pub in_set : List ℕ → Option (BTreeSet (List ℕ)) → Bool
in_set name None = false
in_set name (Some names) = contains text_order names name

abbrev pub has_name : BTreeMap (List ℕ) (BTreeSet (List ℕ)) → List ℕ → List ℕ → Bool
has_name spaces namespace name = in_set name (get text_order spaces namespace)

-- the maps find what a walk over the module's lists finds
pub record AreMapsOf (m : Module) (exact : BTreeMap TypeName ℕ) (wide : BTreeMap (List ℕ) ℕ) (egresses : BTreeMap (List ℕ) (BTreeSet (List ℕ))) : Type 0 where
  pub by_name : (kind : TypeName) → endpoint_at m.endpoints (get name_order exact kind) ≡ find (is_exact kind) m.endpoints
  pub by_namespace : (kind : TypeName) → endpoint_at m.endpoints (get text_order wide kind.namespace) ≡ find (is_wide kind) m.endpoints
  pub by_egress : (namespace name : List ℕ) → has_name egresses namespace name ≡ list_any (is_called namespace name) m.egresses
