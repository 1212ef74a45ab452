use Rattle.std.proofs.Common.{◌++◌, [], ◌∷◌, ◌∙◌, ap}
use Rattle.delayed_messages.specs.declared.queue.Numbered.{Numbered}
use Rattle.delayed_messages.specs.Waiting.{Waiting}
use Rattle.delayed_messages.proofs.Orders.{put-good, put-behind}
use Rattle.delayed_messages.proofs.delays.Delays.put.Goals as goal

pub invariant_of-self : goal.invariant_of-self
invariant_of-self c =
    let kept : Numbered = record { number = c.self.inside.next; delay = c.args.delay } in
    put-good kept c.self.inside.queue.items c.enqueue.new.queue.items c.self.invariant.0 c.self.invariant.1 c.enqueue.ensures.items

pub returns-clause-delays : goal.returns-clause-delays
returns-clause-delays c =
    let kept : Numbered = record { number = c.self.inside.next; delay = c.args.delay } in
    put-behind kept c.self.inside.queue.items c.enqueue.new.queue.items c.self.invariant.0 c.self.invariant.1 c.enqueue.ensures.items ∙ ap (λ (w : Waiting). w.delays ++ c.args.delay ∷ []) c.self.view_is
