use Rattle.std.proofs.Common.{◌≡◌, ◌+◌, ◌<◌, ◌^◌, drop}
use Rattle.address_routing.specs.Routing.{splits_in}
use Rattle.module_yaml.proofs.documents.past_splits.Given as goal

-- the splits so far, and those that are left
abbrev pub invariant-loop-ingress : goal.invariant-loop-ingress
invariant-loop-ingress l = record {
  bound : l.sum < 2 ^ 33;
  all : splits_in l.ingresses + l.more ≡ l.sum + splits_in (drop l.ingress-index l.ingresses);
}
