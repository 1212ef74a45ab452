use Rattle.std.proofs.Common.{◌∙◌, sym, true≢false}
use Rattle.keyed_queues.specs.Queues.{list_of}
use Rattle.keyed_queues.proofs.Alike.{read_in, by_both}
use Rattle.keyed_queues.proofs.shelf.Shelf.same.Goals as goal

pub returns-then-is_in : goal.returns-then-is_in
returns-then-is_in g c = (
  λ t. by_both g.met.K.Ord.total g.met.K.Key.exact list_of c.args.self.now.queues c.args.other.now.queues c.is_in.ensures.ordered c.is_in-then-is_in.ensures.ordered (c.is_in.ensures.alike.0 c.if-is_in.true) (c.is_in-then-is_in.ensures.alike.0 t),
  λ same. c.is_in-then-is_in.ensures.alike.1 (read_in g.met.K.Ord.total g.met.K.Key.exact list_of c.args.other.now.queues c.args.self.now.queues c.is_in-then-is_in.ensures.ordered (λ key. sym (same key))),
)

pub returns-else-is_in : goal.returns-else-is_in
returns-else-is_in g c = (
  λ t. absurd (true≢false (sym t ∙ c.if-is_in.false)),
  λ same. c.is_in.ensures.alike.1 (read_in g.met.K.Ord.total g.met.K.Key.exact list_of c.args.self.now.queues c.args.other.now.queues c.is_in.ensures.ordered same),
)
