use Rattle.std.proofs.Common.{◌≡◌, [], List, subst, rules}
use Rattle.std.proofs.lemmas.List.{nil_from_length}
use Rattle.request_reply.specs.declared.answer.PersistedValueSpec.{PersistedValueSpec}
use Rattle.request_reply.proofs.Declaring.{Reached, reached-none, reached-next, reached-flaw, reached-end}
use Rattle.request_reply.proofs.missing.declared_by.Goals as goal

pub loop-value-init : goal.loop-value-init
loop-value-init g c = rw (c.new-new.ensures, c.into_iter-value-iterator.ensures.into_iter_gives.0, c.into_vec-value-items.ensures) (reached-none (g.K.Known.setting c.args.known.now).cells c.args.values)

pub loop-value-preserved : goal.loop-value-preserved
loop-value-preserved g c =
    let cells = (g.K.Known.setting c.args.known.now).cells in
    let here = subst (λ (rest : List PersistedValueSpec). Reached cells c.args.values c.loop-value.new c.loop-value.index rest) c.in-Some.ensures.steps.0 c.loop-value.invariant in
    let told = rw c.in_default.is at c.in_ok-kind.ensures in
    reached-next cells c.args.values c.loop-value.new c.take_in.new.new c.loop-value.index c.in-Some.value c.next.new.self.rest.items here told.0 told.1

pub returns-in-Err : goal.returns-in-Err
returns-in-Err g c =
    let cells = (g.K.Known.setting c.args.known.now).cells in
    let here = subst (λ (rest : List PersistedValueSpec). Reached cells c.args.values c.loop-value.new c.loop-value.index rest) c.in-Some.ensures.steps.0 c.loop-value.invariant in
    let told = rw c.in-Err.is at c.in_ok-kind.ensures in
    rw c.flaw_at.ensures (reached-flaw cells c.args.values c.loop-value.new c.loop-value.index c.in-Some.value c.next.new.self.rest.items c.in-Err.kind here told)

pub returns : goal.returns
returns g c =
    let cells = (g.K.Known.setting c.args.known.now).cells in
    let none : c.loop-value.value-iterator.rest.items ≡ [] = search (rules, nil_from_length) in
    let end = reached-end cells c.args.values c.loop-value.new c.loop-value.index (subst (λ (rest : List PersistedValueSpec). Reached cells c.args.values c.loop-value.new c.loop-value.index rest) none c.loop-value.invariant) in
    simp (end.0, end.1) c.if_some.ensures
