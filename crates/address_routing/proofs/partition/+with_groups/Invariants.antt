use Rattle.address_routing.proofs.partition.+with_groups.Given as goal

abbrev pub decreases-with_groups : goal.decreases-with_groups
decreases-with_groups l = l.more
