use Rattle.std.proofs.Common.{◌≡◌, ◌++◌, drop}
use Rattle.std.specs.List.{flat_map}
use Rattle.std.specs.String.{string_bytes}
use Rattle.address_routing.specs.JobText.{endpoint_line}
use Rattle.address_routing.proofs.text.with_endpoints.Given as goal

-- what is written, and the lines of what is left
abbrev pub invariant-loop-endpoint : goal.invariant-loop-endpoint
invariant-loop-endpoint l = string_bytes l.more ++ flat_map endpoint_line (drop l.endpoint-index l.endpoints) ≡ string_bytes l.initial.more ++ flat_map endpoint_line l.endpoints
