use Rattle.std.proofs.Common.{rules, ◌∙◌, ap, sym, subst}
use Rattle.std.proofs.lemmas.List.Sorted.{IsNonDecreasingBy-from_sort_by_key}
use Rattle.delayed_messages.specs.declared.queue.Numbered.{Numbered}
use Rattle.delayed_messages.specs.Queue.{IsQueue, by_number}
use Rattle.delayed_messages.proofs.Sorting.{sorted-is}
use Rattle.delayed_messages.proofs.queue.by_put.Goals as goal

pub returns : goal.returns
returns c =
    let rise = IsNonDecreasingBy-from_sort_by_key (λ (x : Numbered). x.number) c.sort_by_key.new.self.items c.in_ok-sort_by_key.ensures.sorted (λ a r q k. search rules) in
    let same = c.in_ok-copy.ensures in
    sorted-is c.in_ok-copy.copy.items c.sort_by_key.new.self.items (subst IsQueue (sym same) c.requires) c.in_ok-sort_by_key.ensures.permutation rise ∙ ap by_number same
