use Rattle.std.proofs.Common.{◌≡◌, map}
use Rattle.state_cells.specs.Lifetimes.{after_all}
use Rattle.invocation.specs.Laws.{TakesAll}
use Rattle.run_record.specs.Machine.{cell_call}
use Rattle.run_record.proofs.part.change_cells.Given as goal

abbrev pub invariant-loop-change : goal.invariant-loop-change
invariant-loop-change l = record {
  so_far : after_all (map (cell_call l.fn.moment) l.change-iterator.rest.items) l.cells ≡ after_all (map (cell_call l.fn.moment) l.fn.changes) l.fn.cells;
  takes : TakesAll l.cells l.change-iterator.rest.items;
}
