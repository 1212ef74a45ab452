use Rattle.std.proofs.Common.{◌≡◌, ◌<◌, ◌∙◌, not, remove, length, take, drop, filter, ◌++◌, sym, ap, arith, true}
use Rattle.std.specs.VecDeque.{deque_len}
use Rattle.typed_values.specs.Delays.{is_meant}
use Rattle.delayed_messages.proofs.Orders.{left}
use Rattle.delayed_messages.proofs.Removing.{goes, length-remove, on-some}
use Rattle.delayed_messages.proofs.queue.remove_meant.Goals as goal

pub loop-at-preserved-then-is_meant : goal.loop-at-preserved-then-is_meant
loop-at-preserved-then-is_meant c =
    let keep = left (is_meant c.args.sender.now c.args.token.now) in
    let items = c.loop-at.queue.items in
    let i = c.loop-at.at in
    let short : i < deque_len c.loop-at.queue = omega (arith, c.loop-at-test.true, c.len.ensures) in
    let lies : i < length items = omega (arith, short, c.loop-at.queue.ok.0) in
    let is : c.remove.new.self.items ≡ remove items i = on-some c.remove.result _ (c.remove.ensures.succeeds c.index.result.now short) c.remove.ensures.items in
    let meant : is_meant c.args.sender.now c.args.token.now c.index.result.now.delay ≡ true = sym c.is_meant.ensures ∙ c.if-is_meant.true in (
      c.loop-at.invariant.0 ∙ goes keep i items c.index.result.now lies c.index.ensures (ap not meant) ∙ ap (λ xs. take i xs ++ filter keep (drop i xs)) (sym is),
      omega (arith, ap length is, length-remove keep i items lies, lies),
      c.remove.ensures.capacity ∙ c.loop-at.invariant.2,
    )
