use Rattle.std.proofs.Common.{◌∙◌, sym, ap, subst, ◌+◌}
use Rattle.batch_queue.specs.Lines.{IsLinked, in_line, no_link}
use Rattle.batch_queue.proofs.Relinking.{grow_is}
use Rattle.batch_queue.proofs.line.Line.grow.Goals as goal

pub invariant_of-self-2 : goal.invariant_of-self-2
invariant_of-self-2 c = subst IsLinked (sym c.in_ok-push.ensures.items) (grow_is c.self.inside.links.items no_link c.self.invariant).0

pub returns-clause-ok : goal.returns-clause-ok
returns-clause-ok c = ap in_line c.in_ok-push.ensures.items ∙ (grow_is c.self.inside.links.items no_link c.self.invariant).1 ∙ (λ k. record { size = (c.self.view_is k).size + 1; numbers = (c.self.view_is k).numbers })
