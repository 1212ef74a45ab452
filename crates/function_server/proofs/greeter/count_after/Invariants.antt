use Rattle.std.proofs.Common.{◌≡◌}
use Rattle.function_server.specs.Greeting.{count_with}
use Rattle.function_server.proofs.greeter.count_after.Given as goal

abbrev pub invariant-loop-name : goal.invariant-loop-name
invariant-loop-name l = l.now ≡ count_with l.count l._name-index
