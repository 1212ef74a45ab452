use Rattle.std.proofs.Common.{◌≡◌, ◌≤◌, length}
use Rattle.proto_wire.specs.Message.{value_in}
use Rattle.proto_wire.proofs.message.merge.Given as goal

-- what is left makes of the message so far what all bytes make of the first
abbrev pub invariant-loop-rest : goal.invariant-loop-rest
invariant-loop-rest g l = record {
  same : value_in g.M.Decode.rows l.message l.rest ≡ value_in g.M.Decode.rows l.initial.message l.bytes;
  inside : length l.rest ≤ l.end;
}

abbrev pub decreases-loop-rest : goal.decreases-loop-rest
decreases-loop-rest g l = length l.rest
