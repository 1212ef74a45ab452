use Rattle.proto_wire.proofs.varint.+groups_size.Given as goal

abbrev pub decreases-groups_size : goal.decreases-groups_size
decreases-groups_size l = l.more
