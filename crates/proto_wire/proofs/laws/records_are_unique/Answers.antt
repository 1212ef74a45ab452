use Rattle.proto_wire.proofs.Records.{records-are-unique}
use Rattle.proto_wire.proofs.laws.records_are_unique.Goals as goal

pub returns : goal.returns
returns c = records-are-unique
