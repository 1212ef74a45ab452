use Rattle.std.proofs.Common.{◌≡◌, ◌<◌, drop}
use Rattle.address_routing.specs.Routing.{splits_in, ingress_in}
use Rattle.address_routing.proofs.routes.ingress_at.Given as goal

-- what is left of the split's number points into the ingresses that are left
abbrev pub invariant-loop-ingress : goal.invariant-loop-ingress
invariant-loop-ingress l = (l.left < splits_in (drop l.ingress-index l.ingresses)) × (ingress_in l.ingresses l.split ≡ ingress_in (drop l.ingress-index l.ingresses) l.left)
