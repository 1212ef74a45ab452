use Rattle.std.proofs.Common.{◌≡◌, ℕ, List, take}
use Rattle.std.specs.List.{list_any}
use Rattle.address_routing.specs.Routing.{is_called}
use Rattle.address_routing.specs.Kept.{has_name}
use Rattle.address_routing.proofs.maps.names_in.Given as goal

-- the names so far are noted
abbrev pub invariant-loop-name : goal.invariant-loop-name
invariant-loop-name l = (namespace name : List ℕ) → has_name l.spaces namespace name ≡ list_any (is_called namespace name) (take l.name-index l.names)
