use Rattle.proto_wire.proofs.Faults.{record-fault-is-first}
use Rattle.proto_wire.proofs.laws.the_first_fault_of_a_record_counts.Goals as goal

pub returns : goal.returns
returns c = record-fault-is-first
