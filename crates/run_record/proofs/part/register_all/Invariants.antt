use Rattle.std.proofs.Common.{◌≡◌, ◌≤◌, map, length, take}
use Rattle.state_cells.specs.Lifetimes.{Registers, after_all}
use Rattle.invocation.specs.Laws.{AreNew}
use Rattle.run_record.proofs.part.register_all.Given as goal

abbrev pub invariant-loop-spec : goal.invariant-loop-spec
invariant-loop-spec l = record {
  so_far : after_all (map Registers l.spec-iterator.rest.items) l.cells ≡ after_all (map Registers l.fn.specs) l.fn.cells;
  new : AreNew l.cells l.spec-iterator.rest.items;
  front : take l.before l.cells ≡ l.fn.cells;
  long : l.before ≤ length l.cells;
}
