use Rattle.std.proofs.Common.{◌≡◌, ◌<◌, length, Some, None, get_or, refl, ap, subst, arith, List}
use Rattle.typed_values.specs.declared.record.Delay.{Delay}
use Rattle.typed_values.specs.Delays.{due_at}
use Rattle.delayed_messages.specs.Waiting.{Waiting, TakesDue}
use Rattle.delayed_messages.specs.Queue.{in_order_of_put}
use Rattle.delayed_messages.proofs.Orders.{takes-due, takes-none}
use Rattle.delayed_messages.proofs.delays.Delays.next_due.Goals as goal

pub returns-then-branch-moment-clause-due : goal.returns-then-branch-moment-clause-due
returns-then-branch-moment-clause-due c =
    let first = c.in_ok-front.field-0.now in
    let is : first ≡ get_or c.self.inside.queue.items 0 first = c.in_ok-front.ensures.lookup in
    let some : 0 < length c.self.inside.queue.items = omega (arith, c.in_ok-front.ensures.variant.0 refl, c.self.inside.queue.ok.0) in
    subst (λ (ds : List Delay). TakesDue (due_at c.args.moment ds) ds None ds) (ap (λ (w : Waiting). w.delays) c.self.view_is) (takes-none c.self.inside.queue.items first c.args.moment c.self.invariant.0 some is (omega (arith, c.if-branch-moment.true)))

pub returns-clause-due : goal.returns-clause-due
returns-clause-due c =
    let first = c.in_ok-front.field-0.now in
    let is : first ≡ get_or c.self.inside.queue.items 0 first = c.in_ok-front.ensures.lookup in
    subst (λ (ds : List Delay). TakesDue (due_at c.args.moment ds) ds (Some c.in_ok-pop_front.field-0.delay) (in_order_of_put c.pop_front.new.self.items)) (ap (λ (w : Waiting). w.delays) c.self.view_is)
    (takes-due c.self.inside.queue.items c.pop_front.new.self.items c.in_ok-pop_front.field-0 first c.args.moment c.self.invariant.0 c.in_ok-pop_front.ensures.items is (omega (arith, c.if-branch-moment.false)))
