use Rattle.std.proofs.Common.{◌∙◌, sym, true≢false}
use Rattle.keyed_queues.specs.Queues.{lists_of}
use Rattle.keyed_queues.proofs.Alike.{read_in, by_both, at_inner, over_inner}
use Rattle.keyed_queues.proofs.shelves.Shelves.same.Goals as goal

pub returns-then-is_in : goal.returns-then-is_in
returns-then-is_in g c =
    let own = c.args.self.now.shelves in
    let others = c.args.other.now.shelves in (
      λ t a. at_inner g.A.Ord.cmp g.B.Ord.cmp own others a (by_both g.met.A.Ord.total g.met.A.Key.exact (lists_of g.B.Ord.cmp) own others c.is_in.ensures.ordered c.is_in-then-is_in.ensures.ordered (c.is_in.ensures.alike.0 c.if-is_in.true) (c.is_in-then-is_in.ensures.alike.0 t) a),
      λ same. c.is_in-then-is_in.ensures.alike.1 (read_in g.met.A.Ord.total g.met.A.Key.exact (lists_of g.B.Ord.cmp) others own c.is_in-then-is_in.ensures.ordered (λ a. over_inner g.A.Ord.cmp g.B.Ord.cmp others own a (λ b. sym (same a b)))),
    )

pub returns-else-is_in : goal.returns-else-is_in
returns-else-is_in g c =
    let own = c.args.self.now.shelves in
    let others = c.args.other.now.shelves in (
      λ t. absurd (true≢false (sym t ∙ c.if-is_in.false)),
      λ same. c.is_in.ensures.alike.1 (read_in g.met.A.Ord.total g.met.A.Key.exact (lists_of g.B.Ord.cmp) own others c.is_in.ensures.ordered (λ a. over_inner g.A.Ord.cmp g.B.Ord.cmp own others a (λ b. same a b))),
    )
