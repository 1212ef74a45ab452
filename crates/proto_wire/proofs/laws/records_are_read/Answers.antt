use Rattle.proto_wire.proofs.Records.{records-are-read}
use Rattle.proto_wire.proofs.laws.records_are_read.Goals as goal

pub returns : goal.returns
returns c = records-are-read
