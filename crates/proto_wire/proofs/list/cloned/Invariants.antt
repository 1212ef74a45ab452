use Rattle.std.proofs.Common.{◌≡◌, take}
use Rattle.proto_wire.proofs.list.cloned.Given as goal

-- what was copied so far
abbrev pub invariant-loop-item : goal.invariant-loop-item
invariant-loop-item g l = l.copy.items ≡ take l.item-index l.items
