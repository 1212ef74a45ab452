use Rattle.proto_wire.proofs.Faults.{payload-fault-is-first}
use Rattle.proto_wire.proofs.laws.the_first_fault_of_a_payload_counts.Goals as goal

pub returns : goal.returns
returns c = payload-fault-is-first
