use Rattle.proto_wire.proofs.Faults.{tag-fault-is-first}
use Rattle.proto_wire.proofs.laws.the_first_fault_of_a_tag_counts.Goals as goal

pub returns : goal.returns
returns c = tag-fault-is-first
