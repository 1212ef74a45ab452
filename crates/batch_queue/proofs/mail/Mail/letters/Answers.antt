use Rattle.std.proofs.Common.{sym, ap, subst}
use Rattle.std.specs.Ordering.{is_lt}
use Rattle.std.specs.List.Sorted.{IsPermutation}
use Rattle.std.proofs.lemmas.Cmp.{nat_list_cmp_total}
use Rattle.std.proofs.lemmas.List.Sorted.{answers_always, ranks_by}
use Rattle.std.proofs.lemmas.Result.{IfOk-weaker}
use Rattle.batch_queue.specs.Kept.{Kept, post_of}
use Rattle.batch_queue.specs.Post.{IsAll}
use Rattle.batch_queue.specs.declared.mail.Gathered.{Gathered}
use Rattle.batch_queue.proofs.Gathering.{all_letters}
use Rattle.batch_queue.proofs.mail.Mail.letters.Goals as goal

pub returns : goal.returns
returns c =
    let kept : Kept = record { boxes = c.self.inside.boxes.entries; names = c.self.inside.names.items; line = c.self.inside.line } in
    let ranks = ranks_by nat_list_cmp_total (λ (one : Gathered). one.key) in
    let sorted = c.in_ok-sort_by.ensures.sorted _ ranks (answers_always _ _ _ (λ f a r g h. ap is_lt h.met)) in
    let moved = subst (λ gathered. IsPermutation gathered c.sort_by.new.self.items) c.in_ok-all.ensures.all c.in_ok-sort_by.ensures.permutation in
    IfOk-weaker c.joined.result _ _
    (λ all is. subst (λ (k : Kept). IsAll (post_of k) all) c.self.view_is
    (subst (IsAll (post_of kept)) (sym is) (all_letters c.self.inside.boxes c.self.inside.names.items c.self.inside.line c.self.invariant c.in_ok-all.ensures.ordered c.sort_by.new.self.items moved sorted)))
    c.joined.ensures
