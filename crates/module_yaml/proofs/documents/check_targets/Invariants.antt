use Rattle.std.proofs.Common.{◌≡◌, ◌+◌, drop}
use Rattle.module_yaml.specs.Files.{first_target}
use Rattle.module_yaml.proofs.documents.check_targets.Given as goal

-- the targets so far have endpoints
abbrev pub invariant-loop-node : goal.invariant-loop-node
invariant-loop-node l = record {
  counted : l.number ≡ l.node-index;
  refused : first_target (l.number + 1) l.job (drop l.node-index l.nodes) ≡ first_target 1 l.job l.nodes;
}
