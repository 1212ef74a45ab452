use Rattle.std.specs.Prelude.{◌↔◌}
use Rattle.keyed_queues.specs.Queues.{AreBlank}
use Rattle.keyed_queues.proofs.shelf.Shelf.are_blank.Given as goal

-- all are empty exactly where those that are left are
abbrev pub invariant-loop-key : goal.invariant-loop-key
invariant-loop-key g l = AreBlank l._key-iterator ↔ AreBlank l.self.queues.entries
