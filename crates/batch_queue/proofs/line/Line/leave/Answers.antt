use Rattle.std.proofs.Common.{◌≡◌, ◌∙◌, sym, ap, ℕ, ◌+◌, ◌<◌, suc, length, arith, get_or, add-one}
use Rattle.std.proofs.lemmas.List.{get_or_default}
use Rattle.batch_queue.specs.Lines.{InLine, stands, without, before, after, no_link}
use Rattle.batch_queue.specs.declared.line.Link.{Link}
use Rattle.batch_queue.proofs.Relinking.{leave_is, in_room, prev_room, next_room}
use Rattle.batch_queue.proofs.line.Line.leave.Goals as goal

pub overflow_add-number : goal.overflow_add-number
overflow_add-number c =
    let room = in_room c.self.inside.links.items c.args.number c.self.invariant (ap (λ (v : InLine). stands c.args.number v.numbers) c.self.view_is ∙ c.requires) in
    let sized : length c.self.inside.links.items ≡ c.self.inside.links.len = sym c.self.inside.links.ok.0 in
    let kept = c.self.inside.links.ok.1 in
    let small = c.self.inside.links.small in
    omega (arith, room, sized, kept, small)

pub index-requires : goal.index-requires
index-requires c =
    let room = in_room c.self.inside.links.items c.args.number c.self.invariant (ap (λ (v : InLine). stands c.args.number v.numbers) c.self.view_is ∙ c.requires) in
    let sized : length c.self.inside.links.items ≡ c.self.inside.links.len = sym c.self.inside.links.ok.0 in
    omega (arith, room, sized)

pub index_mut-requires : goal.index_mut-requires
index_mut-requires c =
    let links = c.self.inside.links.items in
    let h = ap (λ (v : InLine). stands c.args.number v.numbers) c.self.view_is ∙ c.requires in
    let at : suc c.args.number < length links = in_room links c.args.number c.self.invariant h in
    let is : c.index.result.now.before ≡ before links (suc c.args.number) =
    ap (λ (l : Link). l.before) (c.index.ensures ∙ ap (λ (n : ℕ). get_or links n c.index.result.now) (add-one c.args.number) ∙ get_or_default links (suc c.args.number) c.index.result.now no_link at) in
    let room = prev_room links c.args.number c.self.invariant h in
    let sized : length links ≡ c.self.inside.links.len = sym c.self.inside.links.ok.0 in
    omega (arith, is, room, sized)

pub index_mut-requires-2 : goal.index_mut-requires-2
index_mut-requires-2 c =
    let links = c.self.inside.links.items in
    let h = ap (λ (v : InLine). stands c.args.number v.numbers) c.self.view_is ∙ c.requires in
    let at : suc c.args.number < length links = in_room links c.args.number c.self.invariant h in
    let is : c.index.result.now.after ≡ after links (suc c.args.number) =
    ap (λ (l : Link). l.after) (c.index.ensures ∙ ap (λ (n : ℕ). get_or links n c.index.result.now) (add-one c.args.number) ∙ get_or_default links (suc c.args.number) c.index.result.now no_link at) in
    let room = next_room links c.args.number c.self.invariant h in
    let sized : length links ≡ c.self.inside.links.len = sym c.self.inside.links.ok.0 in
    omega (arith, is, room, sized)

pub invariant_of-self : goal.invariant_of-self
invariant_of-self c =
    (leave_is c.self.inside.links.items c.args.number (c.args.number + 1) c.index.result.now c.index_mut.result.now c.index_mut-2.result.now (add-one c.args.number) c.self.invariant
    (ap (λ (v : InLine). stands c.args.number v.numbers) c.self.view_is ∙ c.requires) c.index.ensures c.index_mut.ensures.value c.index_mut-2.ensures.value).0

pub returns : goal.returns
returns c =
    let view = c.self.view_is in
    (leave_is c.self.inside.links.items c.args.number (c.args.number + 1) c.index.result.now c.index_mut.result.now c.index_mut-2.result.now (add-one c.args.number) c.self.invariant
    (ap (λ (v : InLine). stands c.args.number v.numbers) view ∙ c.requires) c.index.ensures c.index_mut.ensures.value c.index_mut-2.ensures.value).1
    ∙ (λ k. record { size = (view k).size; numbers = without c.args.number (view k).numbers })
