use Rattle.std.proofs.Common.{◌≤◌, ◌<◌, count_by, length, ◌∙◌, ap, sym, subst, arith}
use Rattle.std.specs.VecDeque.{deque_len, deque_capacity}
use Rattle.typed_values.specs.Delays.{is_meant, cancelled}
use Rattle.delayed_messages.specs.Waiting.{Waiting}
use Rattle.delayed_messages.specs.Queue.{IsQueue, AreBelow, in_order_of_put}
use Rattle.delayed_messages.specs.declared.queue.Numbered.{Numbered}
use Rattle.delayed_messages.proofs.Orders.{left, all-filter, queue-filter, cancelled-is, count-gone, room-grows}
use Rattle.delayed_messages.proofs.delays.Delays.cancel.Goals as goal

pub invariant_of-self : goal.invariant_of-self
invariant_of-self c =
    let keep = left (is_meant c.args.sender.now c.args.token.now) in
    subst (λ xs. IsQueue xs × AreBelow c.self.inside.next xs) (sym c.remove_meant.ensures.kept)
    (queue-filter keep c.self.inside.queue.items c.self.invariant.0, all-filter keep (λ (x : Numbered). x.number < c.self.inside.next) c.self.inside.queue.items c.self.invariant.1)

pub overflow_sub-result : goal.overflow_sub-result
overflow_sub-result c =
    let test = is_meant c.args.sender.now c.args.token.now in
    let gone = count-gone test c.self.inside.queue.items c.self.invariant.0 in
    let there = ap length c.remove_meant.ensures.kept in
    omega (arith, gone, there, c.self.inside.queue.ok.0, c.remove_meant.new.queue.ok.0, c.len.ensures, c.len-before.ensures)

pub returns-clause-count : goal.returns-clause-count
returns-clause-count c =
    let test = is_meant c.args.sender.now c.args.token.now in
    let gone = count-gone test c.self.inside.queue.items c.self.invariant.0 in
    let there = ap length c.remove_meant.ensures.kept in
    let same = ap (λ (w : Waiting). count_by test w.delays) c.self.view_is in
    omega (arith, gone, there, same, c.self.inside.queue.ok.0, c.remove_meant.new.queue.ok.0, c.len.ensures, c.len-before.ensures)

pub returns-clause-delays : goal.returns-clause-delays
returns-clause-delays c =
    let test = is_meant c.args.sender.now c.args.token.now in
    ap in_order_of_put c.remove_meant.ensures.kept ∙ sym (cancelled-is test c.self.inside.queue.items c.self.invariant.0) ∙ ap (λ (w : Waiting). cancelled c.args.sender.now c.args.token.now w.delays) c.self.view_is

pub returns-clause-spare : goal.returns-clause-spare
returns-clause-spare c =
    let test = is_meant c.args.sender.now c.args.token.now in
    let gone = count-gone test c.self.inside.queue.items c.self.invariant.0 in
    let there = ap length c.remove_meant.ensures.kept in
    let fewer : deque_len c.remove_meant.new.queue ≤ deque_len c.self.inside.queue = omega (arith, gone, there, c.self.inside.queue.ok.0, c.remove_meant.new.queue.ok.0) in
    let more = room-grows (deque_capacity c.self.inside.queue) (deque_len c.self.inside.queue) (deque_len c.remove_meant.new.queue) c.self.inside.next fewer in
    let told = ap (λ (w : Waiting). w.spare) c.self.view_is in
    rw (← told, c.remove_meant.ensures.capacity) more
