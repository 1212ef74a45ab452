use Rattle.proto_wire.proofs.Records.{unknown-changes-nothing}
use Rattle.proto_wire.proofs.laws.an_unknown_record_changes_nothing.Goals as goal

pub returns : goal.returns
returns g c = unknown-changes-nothing g.M.Decode.rows
