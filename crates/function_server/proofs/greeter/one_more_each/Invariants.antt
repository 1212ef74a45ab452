use Rattle.std.proofs.Common.{◌≡◌, ◌++◌, drop, map}
use Rattle.function_server.specs.Greeting.{one_more}
use Rattle.function_server.proofs.greeter.one_more_each.Given as goal

abbrev pub invariant-loop-name : goal.invariant-loop-name
invariant-loop-name l = l.messages ++ map (λ _. one_more) (drop l._name-index l.names) ≡ map (λ _. one_more) l.names
