use Rattle.std.proofs.Common.{◌≡◌, ◌++◌, map}
use Rattle.std.specs.List.{AllByRecursion}
use Rattle.partition_core.specs.States.{IsSound}
use Rattle.partition_core.proofs.KeptStates.{part}
use Rattle.partition_core.proofs.keeping.gather.Given as goal

-- what was copied so far, and what is left; where what is left is sound, all is
abbrev pub invariant-loop-address : goal.invariant-loop-address
invariant-loop-address l = record {
  so_far : l.all.items ++ map part l.address-iterator ≡ map part l.actors.entries;
  sound : AllByRecursion IsSound l.address-iterator → AllByRecursion IsSound l.actors.entries;
}
