use Rattle.std.proofs.Common.{◌≡◌, ◌+◌, drop}
use Rattle.module_yaml.specs.Files.{first_refused, no_module, with_documents}
use Rattle.module_yaml.proofs.documents.all_documents.Given as goal

-- the documents so far are in the module, and those that are left make the rest of it
abbrev pub invariant-loop-node : goal.invariant-loop-node
invariant-loop-node l = record {
  counted : l.number ≡ l.node-index;
  refused : first_refused (l.number + 1) l.job (drop l.node-index l.nodes) ≡ first_refused 1 no_module l.nodes;
  made : with_documents l.job (drop l.node-index l.nodes) ≡ with_documents no_module l.nodes;
}
