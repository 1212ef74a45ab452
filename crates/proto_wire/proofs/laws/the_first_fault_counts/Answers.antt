use Rattle.proto_wire.proofs.FirstFault.{first-fault}
use Rattle.proto_wire.proofs.laws.the_first_fault_counts.Goals as goal

pub returns : goal.returns
returns g c = first-fault g.M.Decode.rows
