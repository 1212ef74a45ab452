use Rattle.std.proofs.Common.{◌≡◌, ◌≤◌, None, length}
use Rattle.std.specs.Option.{option_map}
use Rattle.proto_wire.specs.Record.{records_in}
use Rattle.proto_wire.specs.Places.{item_of}
use Rattle.proto_wire.specs.Message.{last_of}
use Rattle.proto_wire.proofs.message.last_record.Given as goal

-- what is left, behind what was found so far, gives what all bytes give
abbrev pub invariant-loop-rest : goal.invariant-loop-rest
invariant-loop-rest l = record {
  same : last_of l.field l.wire (option_map item_of l.found) (records_in l.rest) ≡ last_of l.field l.wire None (records_in l.bytes);
  inside : length l.rest ≤ length l.bytes;
}

abbrev pub decreases-loop-rest : goal.decreases-loop-rest
decreases-loop-rest l = length l.rest
