use Rattle.std.proofs.Common.{◌≡◌, ◌++◌, drop}
use Rattle.function_server.specs.Greeting.{names_in}
use Rattle.function_server.proofs.greeter.names_in.Given as goal

-- those found so far, and those among what is left
abbrev pub invariant-loop-letter : goal.invariant-loop-letter
invariant-loop-letter l = l.names ++ names_in (drop l.letter-index l.letters) ≡ names_in l.letters
