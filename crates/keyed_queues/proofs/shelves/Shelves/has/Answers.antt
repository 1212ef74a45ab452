use Rattle.std.specs.BTreeMap.{get}
use Rattle.keyed_queues.proofs.Alike.{beside_some, beside_none}
use Rattle.keyed_queues.proofs.shelves.Shelves.has.Goals as goal

pub returns-in-Some : goal.returns-in-Some
returns-in-Some g c =
    beside_some g.A.Ord.cmp g.B.Ord.cmp c.args.shelf.now c.in-Some.own.now (get g.A.Ord.cmp c.args.self.now.shelves c.args.outer.now) c.in-Some.ensures.value c.same.result c.same.ensures

pub returns-in-None : goal.returns-in-None
returns-in-None g c =
    beside_none g.A.Ord.cmp g.B.Ord.cmp c.args.shelf.now (get g.A.Ord.cmp c.args.self.now.shelves c.args.outer.now) c.in-None.ensures.value c.is_blank.result c.is_blank.ensures
