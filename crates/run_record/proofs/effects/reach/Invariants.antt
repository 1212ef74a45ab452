use Rattle.std.proofs.Common.{◌≡◌, ◌+◌, ◌-◌, ℕ, get_or, vec_len}
use Rattle.run_record.proofs.effects.reach.Given as goal

abbrev pub invariant-loop-taken : goal.invariant-loop-taken
invariant-loop-taken l = (other : ℕ) → get_or l.taken.items other 0 ≡ get_or l.fn.taken.items other 0

abbrev pub decreases-loop-taken : goal.decreases-loop-taken
decreases-loop-taken l = l.fn.split + 1 - vec_len l.taken
