use Rattle.std.proofs.Common.{◌≡◌, drop}
use Rattle.module_yaml.specs.Values.{targets_of}
use Rattle.module_yaml.proofs.Targets.{behind}
use Rattle.module_yaml.proofs.values.targets_of.Given as goal

-- the names so far, and those of the items that are left
abbrev pub invariant-loop-item : goal.invariant-loop-item
invariant-loop-item l = targets_of l.items ≡ behind l.names (targets_of (drop l.item-index l.items))
