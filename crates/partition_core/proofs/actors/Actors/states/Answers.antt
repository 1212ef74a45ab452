use Rattle.std.proofs.Common.{sym, ap, subst}
use Rattle.std.specs.Ordering.{is_lt}
use Rattle.std.specs.List.Sorted.{IsPermutation}
use Rattle.std.proofs.lemmas.Cmp.{nat_list_cmp_total}
use Rattle.std.proofs.lemmas.List.Sorted.{answers_always, ranks_by}
use Rattle.std.proofs.lemmas.Result.{IfOk-weaker}
use Rattle.partition_core.specs.declared.keeping.Encoded.{Encoded}
use Rattle.partition_core.specs.Kept.{cells_in, seen_in}
use Rattle.partition_core.specs.KeptWork.{StandFor}
use Rattle.partition_core.proofs.KeptStates.{all_states}
use Rattle.partition_core.proofs.actors.Actors.states.Goals as goal

pub returns : goal.returns
returns c =
    let ranks = ranks_by nat_list_cmp_total (λ (one : Encoded). one.key) in
    let sorted = c.in_ok-sort_by.ensures.sorted _ ranks (answers_always _ _ _ (λ f a r g h. ap is_lt h.met)) in
    let moved = subst (λ gathered. IsPermutation gathered c.sort_by.new.self.items) c.in_ok-all.ensures.all c.in_ok-sort_by.ensures.permutation in
    IfOk-weaker c.states_of.result _ _
    (λ states is. subst (StandFor (cells_in c.args.self.now) (seen_in c.args.self.now)) (sym is)
    (all_states c.args.self.now c.in_ok-all.ensures.ordered c.in_ok-all.ensures.sound c.sort_by.new.self.items moved sorted))
    c.states_of.ensures
