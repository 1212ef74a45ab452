use Rattle.keyed_queues.specs.Queues.{list_in}
use Rattle.keyed_queues.proofs.Behind.{withdrawn_one, withdrawn_all}
use Rattle.keyed_queues.proofs.shelves.Shelves.withdraw.Goals as goal

pub loop-gone-preserved : goal.loop-gone-preserved
loop-gone-preserved g c = λ before items same has.
    withdrawn_one g.met.A.Ord.total g.met.B.Ord.total g.met.A.Key.exact g.met.B.Key.exact before (list_in g.A.Ord.cmp g.B.Ord.cmp c.loop-gone.self.shelves) (list_in g.A.Ord.cmp g.B.Ord.cmp c.drop_last.new.self.shelves) items c.args.places.now c.loop-gone.gone c.index-places-places.result c.loop-gone-test.true same (c.loop-gone.invariant before items same has) c.index-places-places.is c.drop_last.ensures

pub returns : goal.returns
returns g c = λ before items same has.
    withdrawn_all g.met.A.Ord.total g.met.B.Ord.total g.met.A.Key.exact g.met.B.Key.exact before (list_in g.A.Ord.cmp g.B.Ord.cmp c.loop-gone.self.shelves) items c.args.places.now c.loop-gone.gone c.loop-gone-test.false same (c.loop-gone.invariant before items same has)
