use Rattle.std.proofs.Common.{◌≡◌, ◌≤◌, length, drop}
use Rattle.std.specs.Prelude.{find}
use Rattle.std.specs.BTreeMap.{get}
use Rattle.typed_values.specs.declared.name.TypeName.{TypeName}
use Rattle.address_routing.specs.Routing.{is_wide}
use Rattle.address_routing.specs.Kept.{text_order, endpoint_at}
use Rattle.address_routing.proofs.maps.wide_places.Given as goal

-- the endpoints from this place on are noted
abbrev pub invariant-back : goal.invariant-back
invariant-back l = record {
  inside : l.place ≤ length l.endpoints;
  noted : (kind : TypeName) → endpoint_at l.endpoints (get text_order l.places kind.namespace) ≡ find (is_wide kind) (drop l.place l.endpoints);
}

abbrev pub decreases-back : goal.decreases-back
decreases-back l = l.place
