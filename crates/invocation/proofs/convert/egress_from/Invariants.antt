use Rattle.std.proofs.Common.{◌≡◌, ◌++◌, map}
use Rattle.invocation.specs.Effects.{egress_record}
use Rattle.invocation.proofs.convert.egress_from.Given as goal

abbrev pub invariant-loop-message : goal.invariant-loop-message
invariant-loop-message l = l.records ++ map (egress_record l.address) l.message-iterator.rest.items ≡ map (egress_record l.address) l.fn.messages
