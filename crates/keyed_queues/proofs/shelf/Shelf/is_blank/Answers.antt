use Rattle.keyed_queues.proofs.Alike.{blank_at, each_blank}
use Rattle.keyed_queues.proofs.shelf.Shelf.is_blank.Goals as goal

pub returns : goal.returns
returns g c = (
  λ t. blank_at g.met.K.Ord.total c.args.self.now.queues (c.are_blank.ensures.blank.0 t),
  λ none. c.are_blank.ensures.blank.1 (each_blank g.met.K.Ord.total c.args.self.now.queues c.are_blank.ensures.ordered none),
)
