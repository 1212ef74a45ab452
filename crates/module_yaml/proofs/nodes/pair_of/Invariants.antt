use Rattle.std.proofs.Common.{◌≡◌, drop}
use Rattle.module_yaml.specs.Mappings.{pair_of}
use Rattle.module_yaml.proofs.nodes.pair_of.Given as goal

-- the pairs so far have other keys
abbrev pub invariant-loop-pair : goal.invariant-loop-pair
invariant-loop-pair l = pair_of l.name (drop l.pair-index l.pairs) ≡ pair_of l.name l.pairs
