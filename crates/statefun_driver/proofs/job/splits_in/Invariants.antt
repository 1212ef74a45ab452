use Rattle.std.proofs.Common.{◌≡◌, ◌+◌, drop}
use Rattle.address_routing.specs.Routing.{splits_in}
use Rattle.statefun_driver.proofs.job.splits_in.Given as goal

-- with those of the ingresses that are left they are those of all
abbrev pub invariant-loop-ingress : goal.invariant-loop-ingress
invariant-loop-ingress l = l.splits + splits_in (drop l.ingress-index l.ingresses) ≡ splits_in l.ingresses
