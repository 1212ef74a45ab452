use Rattle.std.proofs.Common.{◌≡◌, ◌∙◌, sym, ap, [], ◌∷◌, ◌++◌, map, arith, append_assoc, append-nil, length}
use Rattle.std.proofs.lemmas.List.{map_push, nil_from_length}
use Rattle.keyed_queues.specs.Queues.{list_in, place_of, values_at}
use Rattle.keyed_queues.proofs.Behind.{more_behind}
use Rattle.keyed_queues.proofs.shelves.Shelves.push_all.Goals as goal

pub returns-in-Err-clause-err : goal.returns-in-Err-clause-err
returns-in-Err-clause-err g c =
    c.withdraw.ensures (list_in g.A.Ord.cmp g.B.Ord.cmp c.args.self.now.shelves) c.loop-item.yielded (sym (c.as_slice.ensures.value ∙ c.in-Err.ensures.kept ∙ c.loop-item.invariant.3)) (λ a b. c.in-Err.ensures.err a b ∙ c.loop-item.invariant.2 a b)

pub loop-item-preserved : goal.loop-item-preserved
loop-item-preserved g c = (
  tt,
  tt,
  more_behind g.met.A.Ord.total g.met.B.Ord.total g.met.A.Key.exact g.met.B.Key.exact (list_in g.A.Ord.cmp g.B.Ord.cmp c.args.self.now.shelves) (list_in g.A.Ord.cmp g.B.Ord.cmp c.loop-item.self.shelves) (list_in g.A.Ord.cmp g.B.Ord.cmp c.push_placed.new.self.shelves) c.loop-item.yielded (c.in-Some.item ∷ []) c.loop-item.invariant.2 c.in_default.ensures.ok,
  c.in_default.ensures.noted ∙ ap (λ xs. xs ++ place_of c.in-Some.item ∷ []) c.loop-item.invariant.3 ∙ sym (map_push place_of c.loop-item.yielded c.in-Some.item),
  append_assoc c.loop-item.yielded (c.in-Some.item ∷ []) c.next.new.self.rest.items ∙ ap (λ xs. c.loop-item.yielded ++ xs) (sym c.in-Some.ensures.steps.0) ∙ c.loop-item.invariant.4,
)

pub returns-clause-places : goal.returns-clause-places
returns-clause-places g c =
    let rest = c.loop-item.item-iterator.rest in
    let none : length rest.items ≡ 0 = omega (arith, rest.ok.0, c.in-None.ensures.steps.0) in
    let all : c.loop-item.yielded ≡ c.args.items.items = sym (append-nil c.loop-item.yielded) ∙ ap (λ xs. c.loop-item.yielded ++ xs) (sym (nil_from_length rest.items none)) ∙ c.loop-item.invariant.4 in
    c.loop-item.invariant.3 ∙ ap (map place_of) all

pub returns-clause-ok : goal.returns-clause-ok
returns-clause-ok g c =
    let rest = c.loop-item.item-iterator.rest in
    let none : length rest.items ≡ 0 = omega (arith, rest.ok.0, c.in-None.ensures.steps.0) in
    let all : c.loop-item.yielded ≡ c.args.items.items = sym (append-nil c.loop-item.yielded) ∙ ap (λ xs. c.loop-item.yielded ++ xs) (sym (nil_from_length rest.items none)) ∙ c.loop-item.invariant.4 in
    λ a b. c.loop-item.invariant.2 a b ∙ ap (λ items. list_in g.A.Ord.cmp g.B.Ord.cmp c.args.self.now.shelves a b ++ values_at g.A.Ord.cmp g.B.Ord.cmp items a b) all
