use Rattle.std.proofs.Common.{◌≡◌, ◌++◌}
use Rattle.invocation.specs.Effects.{letters_from}
use Rattle.invocation.proofs.convert.letters_from.Given as goal

abbrev pub invariant-loop-message : goal.invariant-loop-message
invariant-loop-message l = l.letters ++ letters_from l.address l.message-iterator.rest.items ≡ letters_from l.address l.fn.messages
