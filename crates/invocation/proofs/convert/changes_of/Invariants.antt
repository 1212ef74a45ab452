use Rattle.std.proofs.Common.{◌≡◌, ◌++◌, map}
use Rattle.invocation.specs.Effects.{change_of}
use Rattle.invocation.proofs.convert.changes_of.Given as goal

abbrev pub invariant-loop-mutation : goal.invariant-loop-mutation
invariant-loop-mutation l = l.changes ++ map change_of l.mutation-iterator.rest.items ≡ map change_of l.fn.mutations
