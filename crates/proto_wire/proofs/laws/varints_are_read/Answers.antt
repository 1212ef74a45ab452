use Rattle.proto_wire.proofs.Spelled.{varints-are-read}
use Rattle.proto_wire.proofs.laws.varints_are_read.Goals as goal

pub returns : goal.returns
returns c = varints-are-read
