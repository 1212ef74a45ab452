use Rattle.std.proofs.Common.{◌≡◌, ◌++◌, map}
use Rattle.partition_core.specs.declared.keeping.Encoded.{Encoded}
use Rattle.partition_core.proofs.keeping.states_of.Given as goal

-- what was moved so far, and what is left
abbrev pub invariant-loop-one : goal.invariant-loop-one
invariant-loop-one l = l.states ++ map (λ (one : Encoded). one.state) l.one-iterator.rest.items ≡ map (λ (one : Encoded). one.state) l.fn.encoded.items
