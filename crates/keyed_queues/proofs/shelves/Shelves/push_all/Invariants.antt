use Rattle.std.proofs.Common.{◌≡◌, ◌++◌, map}
use Rattle.keyed_queues.specs.Queues.{list_in, HasBehind, place_of}
use Rattle.keyed_queues.proofs.shelves.Shelves.push_all.Given as goal

abbrev pub invariant-loop-item : goal.invariant-loop-item
invariant-loop-item g l =
    (goal.iterator-loop-item g).can_next l.item-iterator ×
    (goal.iterator-loop-item g).is_finite l.item-iterator ×
    HasBehind g.A.Ord.cmp g.B.Ord.cmp (list_in g.A.Ord.cmp g.B.Ord.cmp l.fn.self.shelves) l.yielded (list_in g.A.Ord.cmp g.B.Ord.cmp l.self.shelves) ×
    (l.done.items ≡ map place_of l.yielded) ×
    (l.yielded ++ l.item-iterator.rest.items ≡ l.fn.items.items)
