use Rattle.std.proofs.Common.{◌∙◌, sym, ap, subst, map, List, take, length, arith}
use Rattle.typed_values.specs.declared.cell.CellSpec.{CellSpec}
use Rattle.typed_values.specs.declared.cells.Cell.{Cell}
use Rattle.state_cells.specs.Lifetimes.{Registers, after_all}
use Rattle.invocation.specs.Laws.{AreNew}
use Rattle.run_record.proofs.Changes.{registered_front}
use Rattle.run_record.proofs.part.register_all.Goals as goal

pub register_new-requires : goal.register_new-requires
register_new-requires c = (subst (AreNew c.loop-spec.cells) c.in-Some.ensures.steps.0 c.loop-spec.invariant.new).0

pub loop-spec-preserved : goal.loop-spec-preserved
loop-spec-preserved c =
    let rest = c.next.new.self.rest.items in
    let cells = c.loop-spec.cells in
    let is = c.in_default.ensures.ok in
    let front = registered_front c.in-Some.spec cells c.len-before.result c.loop-spec.invariant.long in
    record {
      so_far = ap (after_all (map Registers rest)) is ∙ ap (λ (xs : List CellSpec). after_all (map Registers xs) cells) (sym c.in-Some.ensures.steps.0) ∙ c.loop-spec.invariant.so_far;
      new = subst (λ cells. AreNew cells rest) (sym is) (subst (AreNew cells) c.in-Some.ensures.steps.0 c.loop-spec.invariant.new).1;
      front = ap (take c.len-before.result) is ∙ front.0 ∙ c.loop-spec.invariant.front;
      long = omega (arith, front.1, ap (λ (xs : List Cell). length xs) is, c.loop-spec.invariant.long);
    }
