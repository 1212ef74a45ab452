use Rattle.std.proofs.Common.{◌≡◌, drop}
use Rattle.module_yaml.specs.Mappings.{unknown_key}
use Rattle.module_yaml.specs.Keys.{keys_of}
use Rattle.module_yaml.proofs.keys.check_known.Given as goal

-- the keys so far are in the table
abbrev pub invariant-loop-pair : goal.invariant-loop-pair
invariant-loop-pair l = unknown_key (keys_of l.table) (drop l.pair-index l.pairs) ≡ unknown_key (keys_of l.table) l.pairs
