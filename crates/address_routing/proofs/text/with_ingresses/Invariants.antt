use Rattle.std.proofs.Common.{◌≡◌, ◌++◌, drop}
use Rattle.std.specs.List.{flat_map}
use Rattle.std.specs.String.{string_bytes}
use Rattle.address_routing.specs.JobText.{ingress_line}
use Rattle.address_routing.proofs.text.with_ingresses.Given as goal

-- what is written, and the lines of what is left
abbrev pub invariant-loop-ingress : goal.invariant-loop-ingress
invariant-loop-ingress l = string_bytes l.more ++ flat_map ingress_line (drop l.ingress-index l.ingresses) ≡ string_bytes l.initial.more ++ flat_map ingress_line l.ingresses
