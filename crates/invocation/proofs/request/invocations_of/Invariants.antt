use Rattle.std.proofs.Common.{◌≡◌, ◌++◌, map}
use Rattle.request_reply.specs.Letters.{invocation_of}
use Rattle.invocation.proofs.request.invocations_of.Given as goal

-- with the letters that are left it is what it is to be
abbrev pub invariant-loop-letter : goal.invariant-loop-letter
invariant-loop-letter l = l.list ++ map invocation_of l.letter-iterator.rest.items ≡ map invocation_of l.fn.letters
