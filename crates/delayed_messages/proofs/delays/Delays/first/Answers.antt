use Rattle.std.proofs.Common.{◌≡◌, ◌<◌, ℕ, zero, suc, true, false, true≢false, length, Some, None, List, get_or, deque_len, refl, sym, ap, subst, arith}
use Rattle.std.specs.Option.{option_map}
use Rattle.typed_values.specs.declared.record.Delay.{Delay}
use Rattle.typed_values.specs.Delays.{earliest}
use Rattle.delayed_messages.specs.Waiting.{Waiting, best_of}
use Rattle.delayed_messages.specs.Queue.{in_order_of_put}
use Rattle.delayed_messages.proofs.Orders.{first-there, first-none}
use Rattle.delayed_messages.proofs.delays.Delays.first.Goals as goal

is-none : (n : ℕ) → (0 < n → false ≡ true) → n ≡ 0
is-none zero none = refl
is-none (suc n) none = absurd (true≢false (sym (none (omega arith))))

pub returns-in-Some : goal.returns-in-Some
returns-in-Some c =
    let first = c.in-Some.kept.now in
    let is : first ≡ get_or c.self.inside.queue.items 0 first = c.in-Some.ensures.lookup in
    let some : 0 < length c.self.inside.queue.items = omega (arith, c.in-Some.ensures.variant.0 refl, c.self.inside.queue.ok.0) in
    subst (λ (ds : List Delay). Some first.delay ≡ option_map best_of (earliest ds)) (ap (λ (w : Waiting). w.delays) c.self.view_is) (first-there c.self.inside.queue.items first c.self.invariant.0 some is)

pub returns-in-None : goal.returns-in-None
returns-in-None c =
    let none : length c.self.inside.queue.items ≡ 0 = omega (arith, is-none (deque_len c.self.inside.queue) c.in-None.ensures.variant.1, c.self.inside.queue.ok.0) in
    subst (λ (ds : List Delay). None ≡ option_map best_of (earliest ds)) (ap (λ (w : Waiting). w.delays) c.self.view_is) (first-none c.self.inside.queue.items none)
