use Rattle.std.specs.Prelude.{◌↔◌}
use Rattle.keyed_queues.specs.Queues.{AreReadIn, list_of}
use Rattle.keyed_queues.proofs.shelf.Shelf.is_in.Given as goal

-- all are alike exactly where those that are left are
abbrev pub invariant-loop-key : goal.invariant-loop-key
invariant-loop-key g l = AreReadIn g.K.Ord.cmp list_of l.other.queues l.key-iterator ↔ AreReadIn g.K.Ord.cmp list_of l.other.queues l.self.queues.entries
