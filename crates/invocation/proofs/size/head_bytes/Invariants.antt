use Rattle.std.proofs.Common.{◌≡◌, map, take}
use Rattle.proto_wire.specs.Message.{capped}
use Rattle.invocation.specs.Requests.{head_size}
use Rattle.invocation.proofs.size.head_bytes.Given as goal

-- with the cells so far
abbrev pub invariant-loop-place : goal.invariant-loop-place
invariant-loop-place l = l.size ≡ capped (head_size l.address (take l.place l.cells) l.moment)
