use Rattle.std.proofs.Common.{◌≡◌, ◌++◌, map}
use Rattle.run_record.specs.StateOf.{placed_letter}
use Rattle.run_record.proofs.placing.placed_letters.Given as goal

abbrev pub invariant-loop-letter : goal.invariant-loop-letter
invariant-loop-letter l = l.items.items ++ map placed_letter l.letter-iterator.rest.items ≡ map placed_letter l.fn.letters
