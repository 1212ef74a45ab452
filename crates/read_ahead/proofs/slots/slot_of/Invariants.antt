use Rattle.std.proofs.Common.{◌≡◌}
use Rattle.read_ahead.proofs.slots.slot_of.Given as goal

abbrev pub invariant-loop-window : goal.invariant-loop-window
invariant-loop-window l = l.slot ≡ l.window-index
