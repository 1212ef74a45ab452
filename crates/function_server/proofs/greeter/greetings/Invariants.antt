use Rattle.function_server.proofs.Counting.{Greets}
use Rattle.function_server.proofs.greeter.greetings.Given as goal

-- the count so far, and the greetings so far with those of the names that are left
abbrev pub invariant-loop-name : goal.invariant-loop-name
invariant-loop-name l = Greets l.count l.now l.name-index l.records l.names
