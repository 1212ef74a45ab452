use Rattle.std.proofs.Common.{◌≡◌, drop}
use Rattle.folder_form.specs.Pieces.{are_in_order}
use Rattle.folder_form.proofs.Stated.{in_order_behind}
use Rattle.folder_form.proofs.states.are_in_order.Given as goal

abbrev pub invariant-loop-state : goal.invariant-loop-state
invariant-loop-state l = in_order_behind l.before (drop l.state-index l.states) ≡ are_in_order l.states
