use Rattle.proto_wire.proofs.Fields.{last-scalar-counts}
use Rattle.proto_wire.proofs.laws.the_last_scalar_counts.Goals as goal

pub returns : goal.returns
returns g c = last-scalar-counts g.M.Decode.rows
