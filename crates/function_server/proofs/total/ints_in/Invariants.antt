use Rattle.std.proofs.Common.{◌≡◌, ◌++◌, drop}
use Rattle.function_server.specs.Adding.{ints_in}
use Rattle.function_server.proofs.total.ints_in.Given as goal

-- those found so far, and those among what is left
abbrev pub invariant-loop-letter : goal.invariant-loop-letter
invariant-loop-letter l = l.numbers.items ++ ints_in (drop l.letter-index l.letters) ≡ ints_in l.letters
