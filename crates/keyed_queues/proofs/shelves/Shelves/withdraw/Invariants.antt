use Rattle.std.proofs.Common.{◌≡◌, ◌-◌, List, map, length, take}
use Rattle.keyed_queues.specs.Queues.{list_in, HasBehind, place_of}
use Rattle.keyed_queues.specs.declared.shelves.Placed.{Placed}
use Rattle.keyed_queues.proofs.shelves.Shelves.withdraw.Given as goal

abbrev pub invariant-loop-gone : goal.invariant-loop-gone
invariant-loop-gone g l = (before : g.row.A.Denot → g.row.B.Denot → List g.row.T.Denot) (items : List (Placed g.row.A.Denot g.row.B.Denot g.row.T.Denot)) → map place_of items ≡ l.places → HasBehind g.A.Ord.cmp g.B.Ord.cmp before items (list_in g.A.Ord.cmp g.B.Ord.cmp l.fn.self.shelves) → HasBehind g.A.Ord.cmp g.B.Ord.cmp before (take (length items - l.gone) items) (list_in g.A.Ord.cmp g.B.Ord.cmp l.self.shelves)
