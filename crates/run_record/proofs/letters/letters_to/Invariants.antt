use Rattle.std.proofs.Common.{◌≡◌, take, map}
use Rattle.run_record.specs.Letters.{letter_of}
use Rattle.run_record.proofs.letters.letters_to.Given as goal

-- the letters to the targets so far
abbrev pub invariant-loop-target : goal.invariant-loop-target
invariant-loop-target l = l.letters ≡ map (letter_of l.split l.value_type l.taken) (take l.target-index l.others)
