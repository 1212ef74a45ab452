use Rattle.std.proofs.Common.{◌≡◌, drop}
use Rattle.address_routing.specs.Partitions.{fnv_1a}
use Rattle.address_routing.proofs.partition.with_bytes.Given as goal

-- the bytes that are left make the whole hash of this one
abbrev pub invariant-loop-byte : goal.invariant-loop-byte
invariant-loop-byte l = fnv_1a l.hash (drop l.byte-index l.bytes) ≡ fnv_1a l.initial.hash l.bytes
