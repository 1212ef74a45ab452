use Rattle.std.proofs.Common.{◌≡◌, ◌∙◌, sym, ap, ◌+◌, ◌-◌, ◌<◌, ◌++◌, ◌∷◌, [], length, arith, add-one, subst, ℕ}
use Rattle.std.proofs.lemmas.List.{get_or_default}
use Rattle.batch_queue.specs.Lines.{InLine, stands, before, no_link}
use Rattle.batch_queue.specs.declared.line.Link.{Link}
use Rattle.batch_queue.proofs.Relinking.{join_is, last_room}
use Rattle.batch_queue.proofs.line.Line.join.Goals as goal

pub index_mut-requires-2 : goal.index_mut-requires-2
index_mut-requires-2 c =
    let some = c.self.invariant.ended in
    let is : c.index.result.now.before ≡ before c.self.inside.links.items 0 = ap (λ (l : Link). l.before) (c.index.ensures ∙ get_or_default c.self.inside.links.items 0 c.index.result.now no_link some) in
    let room = last_room c.self.inside.links.items c.self.invariant in
    let sized : length c.self.inside.links.items ≡ c.self.inside.links.len = sym c.self.inside.links.ok.0 in
    omega (arith, is, room, sized)

pub invariant_of-self : goal.invariant_of-self
invariant_of-self c =
    let view = c.self.view_is in
    let known : c.args.number < length c.self.inside.links.items - 1 = subst (λ (n : ℕ). c.args.number < n) (sym (ap (λ (v : InLine). v.size) view)) c.requires.known in
    (join_is c.self.inside.links.items c.args.number (c.args.number + 1) c.index.result.now c.index_mut-2.result.now c.index_mut-3.result.now (add-one c.args.number) c.self.invariant known
    (ap (λ (v : InLine). stands c.args.number v.numbers) view ∙ c.requires.apart) c.index.ensures c.index_mut-2.ensures.value c.index_mut-3.ensures.value).0

pub returns : goal.returns
returns c =
    let view = c.self.view_is in
    let known : c.args.number < length c.self.inside.links.items - 1 = subst (λ (n : ℕ). c.args.number < n) (sym (ap (λ (v : InLine). v.size) view)) c.requires.known in
    (join_is c.self.inside.links.items c.args.number (c.args.number + 1) c.index.result.now c.index_mut-2.result.now c.index_mut-3.result.now (add-one c.args.number) c.self.invariant known
    (ap (λ (v : InLine). stands c.args.number v.numbers) view ∙ c.requires.apart) c.index.ensures c.index_mut-2.ensures.value c.index_mut-3.ensures.value).1
    ∙ (λ k. record { size = (view k).size; numbers = (view k).numbers ++ c.args.number ∷ [] })
