use Rattle.std.proofs.Common.{◌≡◌, drop}
use Rattle.function_server.specs.Adding.{sum_after}
use Rattle.function_server.proofs.total.sum_after.Given as goal

abbrev pub invariant-loop-number : goal.invariant-loop-number
invariant-loop-number l = sum_after l.now (drop l.number-index l.numbers) ≡ sum_after l.sum l.numbers
