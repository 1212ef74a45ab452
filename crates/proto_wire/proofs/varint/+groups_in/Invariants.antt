use Rattle.proto_wire.proofs.varint.+groups_in.Given as goal

abbrev pub decreases-groups_in : goal.decreases-groups_in
decreases-groups_in l = l.most
