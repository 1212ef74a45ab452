use Rattle.std.proofs.Common.{◌∙◌, sym, ap, subst, map, List}
use Rattle.state_cells.specs.Lifetimes.{after_all}
use Rattle.invocation.specs.declared.effects.Change.{Change}
use Rattle.invocation.specs.Laws.{TakesAll}
use Rattle.run_record.specs.Machine.{cell_call}
use Rattle.run_record.proofs.Changes.{takes_after}
use Rattle.run_record.proofs.part.change_cells.Goals as goal

pub change_cell-requires : goal.change_cell-requires
change_cell-requires c = (subst (TakesAll c.loop-change.cells) c.in-Some.ensures.steps.0 c.loop-change.invariant.takes).0

pub loop-change-preserved : goal.loop-change-preserved
loop-change-preserved c =
    let rest = c.next.new.self.rest.items in
    record {
      so_far = ap (after_all (map (cell_call c.args.moment) rest)) c.change_cell.ensures
          ∙ ap (λ (xs : List Change). after_all (map (cell_call c.args.moment) xs) c.loop-change.cells) (sym c.in-Some.ensures.steps.0)
          ∙ c.loop-change.invariant.so_far;
      takes = subst (λ cells. TakesAll cells rest) (sym c.change_cell.ensures) (takes_after c.args.moment c.in-Some.change c.loop-change.cells rest (subst (TakesAll c.loop-change.cells) c.in-Some.ensures.steps.0 c.loop-change.invariant.takes).1);
    }
