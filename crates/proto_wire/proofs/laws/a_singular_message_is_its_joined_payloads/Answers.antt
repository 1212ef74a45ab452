use Rattle.proto_wire.proofs.Fields.{singular-is-joined}
use Rattle.proto_wire.proofs.laws.a_singular_message_is_its_joined_payloads.Goals as goal

pub returns : goal.returns
returns g c = singular-is-joined g.M.Decode.rows g.N.Decode.rows g.N.Decode.empty
