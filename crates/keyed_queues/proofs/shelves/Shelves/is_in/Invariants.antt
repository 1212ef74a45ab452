use Rattle.std.specs.Prelude.{◌↔◌}
use Rattle.keyed_queues.specs.Queues.{AreReadIn, lists_of}
use Rattle.keyed_queues.proofs.shelves.Shelves.is_in.Given as goal

-- all are alike exactly where those that are left are
abbrev pub invariant-loop-outer : goal.invariant-loop-outer
invariant-loop-outer g l = AreReadIn g.A.Ord.cmp (lists_of g.B.Ord.cmp) l.other.shelves l.outer-iterator ↔ AreReadIn g.A.Ord.cmp (lists_of g.B.Ord.cmp) l.other.shelves l.self.shelves.entries
