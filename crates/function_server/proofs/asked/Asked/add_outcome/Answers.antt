use Rattle.std.proofs.Common.{◌≡◌, ◌+◌, ◌≤◌, ◌∙◌, ap, length, arith, length-append}
use Rattle.function_server.specs.Asking.{outcomes_in}
use Rattle.function_server.proofs.Outcomes.{outcomes-le}
use Rattle.function_server.proofs.asked.Asked.add_outcome.Goals as goal

-- there are as many events as a list can have, and each outcome is one of them
pub overflow_add-self : goal.overflow_add-self
overflow_add-self c =
    let le : outcomes_in c.self.inside.events ≤ length c.self.inside.events = outcomes-le c.self.inside.events in
    let longer : length c.push.new.self ≡ length c.self.inside.events + 1 = ap length c.in_ok-push.ensures.ok ∙ length-append c.self.inside.events _ in
    omega (arith, c.self.invariant.1, c.len-count.ensures, c.len-count.type_inv)
