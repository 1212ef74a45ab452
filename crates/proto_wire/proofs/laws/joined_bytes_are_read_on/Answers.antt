use Rattle.proto_wire.proofs.Joined.{joined-read-on}
use Rattle.proto_wire.proofs.laws.joined_bytes_are_read_on.Goals as goal

pub returns : goal.returns
returns g c = λ old new bytes more h. joined-read-on g.M.Decode.rows old new bytes more h
