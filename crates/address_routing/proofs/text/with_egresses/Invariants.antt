use Rattle.std.proofs.Common.{◌≡◌, ◌++◌, drop}
use Rattle.std.specs.List.{flat_map}
use Rattle.std.specs.String.{string_bytes}
use Rattle.address_routing.specs.JobText.{egress_line}
use Rattle.address_routing.proofs.text.with_egresses.Given as goal

-- what is written, and the lines of what is left
abbrev pub invariant-loop-name : goal.invariant-loop-name
invariant-loop-name l = string_bytes l.more ++ flat_map egress_line (drop l.name-index l.egresses) ≡ string_bytes l.initial.more ++ flat_map egress_line l.egresses
