use Rattle.std.proofs.Common.{◌≡◌, drop}
use Rattle.module_yaml.specs.Files.{first_unserved}
use Rattle.module_yaml.proofs.documents.check_items.Given as goal

-- the items so far have endpoints
abbrev pub invariant-loop-item : goal.invariant-loop-item
invariant-loop-item l = first_unserved l.job (drop l.item-index l.items) ≡ first_unserved l.job l.items
