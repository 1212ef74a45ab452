use Rattle.std.proofs.Common.{◌∙◌, rules}
use Rattle.std.specs.Ordering.{is_lt, nat_cmp, ordering_then}
use Rattle.std.proofs.lemmas.Cmp.{then_total, on_total, nat_cmp_total}
use Rattle.std.proofs.lemmas.List.Sorted.{answers_always, ranks_by}
use Rattle.run_record.specs.declared.entry.Entry.{Entry}
use Rattle.run_record.specs.declared.merging.EntryKey.{EntryKey}
use Rattle.run_record.proofs.Orders.{sorted_is, keys_same}
use Rattle.run_record.proofs.merging.merge.Goals as goal

key_of : Entry → EntryKey
key_of entry = record { leg = entry.leg; stamp = entry.stamp; node = entry.node }

pub returns : goal.returns
unfolding key_of
returns c =
    let total = then_total (on_total (λ (k : EntryKey). k.leg) nat_cmp_total) (then_total (on_total (λ (k : EntryKey). k.stamp) nat_cmp_total) (on_total (λ (k : EntryKey). k.node) nat_cmp_total)) in
    c.of.ensures ∙ sorted_is (λ x y. is_lt (ordering_then (nat_cmp x.leg y.leg) (ordering_then (nat_cmp x.stamp y.stamp) (nat_cmp x.node y.node)))) (ranks_by total key_of) keys_same c.args.lists c.in_ok-entries.entries.items c.sort_by_key.new.self.items c.in_ok-entries.ensures (c.in_ok-sort_by_key.ensures.sorted key_of (answers_always _ _ _ (λ f a r g h. search rules))) (c.in_ok-sort_by_key.ensures.stable key_of (answers_always _ _ _ (λ f a r g h. search rules)))
