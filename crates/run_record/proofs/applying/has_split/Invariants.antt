use Rattle.std.proofs.Common.{◌≡◌, drop, nat_lt}
use Rattle.address_routing.specs.Routing.{splits_in}
use Rattle.run_record.proofs.applying.has_split.Given as goal

abbrev pub invariant-loop-ingress : goal.invariant-loop-ingress
invariant-loop-ingress l = nat_lt l.left (splits_in (drop l.ingress-index l.ingresses)) ≡ nat_lt l.fn.split (splits_in l.ingresses)
