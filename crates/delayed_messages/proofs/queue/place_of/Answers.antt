use Rattle.std.proofs.Common.{nat_le, rules, arith}
use Rattle.std.proofs.lemmas.List.Sorted.{IsPartitionPoint-from_clause}
use Rattle.delayed_messages.proofs.Places.{parted, place-from}
use Rattle.delayed_messages.proofs.queue.place_of.Goals as goal

pub returns-clause-place : goal.returns-clause-place
returns-clause-place c =
    let point = IsPartitionPoint-from_clause (λ kept. nat_le kept.delay.due c.args.due) _ _ c.partition_point.ensures.partitioned (parted c.args.due c.args.queue.now.items c.requires) (λ a r q k. search rules) in
    place-from c.args.due c.args.queue.now.items c.partition_point.result (omega (arith, c.partition_point.ensures.bound, c.args.queue.now.ok.0)) point
