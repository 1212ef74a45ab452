use Rattle.proto_wire.proofs.Fields.{member-is-joined}
use Rattle.proto_wire.proofs.laws.a_member_is_its_joined_payloads.Goals as goal

pub returns : goal.returns
returns g c = member-is-joined g.M.Decode.rows g.N.Decode.rows g.N.Decode.empty
