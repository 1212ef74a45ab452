use Rattle.std.proofs.Common.{◌≡◌, ◌∙◌, [], take, length, ◌-◌, subst, append-nil}
use Rattle.keyed_queues.specs.Queues.{list_in, ChangesIn, place_of}
use Rattle.keyed_queues.specs.declared.shelves.Place.{Place}
use Rattle.keyed_queues.proofs.Behind.{pushed, dropped}
use Rattle.keyed_queues.proofs.shelves.Shelves.push_placed.Goals as goal

pub returns-in-Err-clause-err : goal.returns-in-Err-clause-err
returns-in-Err-clause-err g c = λ a b.
    let here = list_in g.A.Ord.cmp g.B.Ord.cmp c.args.self.now.shelves in
    let between = list_in g.A.Ord.cmp g.B.Ord.cmp c.push.new.self.shelves in
    let after = list_in g.A.Ord.cmp g.B.Ord.cmp c.drop_last.new.self.shelves in
    let added = pushed g.met.A.Ord.total g.met.B.Ord.total g.met.A.Key.exact g.met.B.Key.exact here between c.args.item c.in_ok-push.ensures.ok in
    let P = λ (p : Place g.row.A.Denot g.row.B.Denot). ChangesIn between after p.outer p.inner (take (length (between p.outer p.inner) - 1) (between p.outer p.inner)) in
    let same : c.in-Err.field-0.value ≡ place_of c.args.item = c.in-Err.ensures.value_returned in
    dropped g.met.A.Ord.total g.met.B.Ord.total g.met.A.Key.exact g.met.B.Key.exact here between after [] c.args.item added (subst P same c.drop_last.ensures) a b ∙ append-nil (here a b)
