use Rattle.std.proofs.Common.{◌≡◌, ◌++◌, List, flat_map}
use Rattle.run_record.specs.declared.entry.Entry.{Entry}
use Rattle.run_record.proofs.merging.joined.Given as goal

abbrev pub invariant-loop-list : goal.invariant-loop-list
invariant-loop-list l = l.entries.items ++ flat_map (λ (list : List Entry). list) l.list-iterator.rest.items ≡ flat_map (λ (list : List Entry). list) l.fn.lists
