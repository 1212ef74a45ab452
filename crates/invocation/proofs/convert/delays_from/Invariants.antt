use Rattle.std.proofs.Common.{◌≡◌, ◌++◌}
use Rattle.std.specs.List.{flat_map}
use Rattle.invocation.specs.Effects.{delays_of}
use Rattle.invocation.proofs.convert.delays_from.Given as goal

abbrev pub invariant-loop-one : goal.invariant-loop-one
invariant-loop-one l = l.changes ++ flat_map (delays_of l.address l.moment) l.one-iterator.rest.items ≡ flat_map (delays_of l.address l.moment) l.fn.delayed
