use Rattle.partition_core.proofs.PutBack.{Remain}
use Rattle.partition_core.proofs.restoring.restored_cells.Given as goal

-- what was put back so far, and what is left
abbrev pub invariant-loop-cell : goal.invariant-loop-cell
invariant-loop-cell l = Remain l.cells l.cell-iterator.rest.items l.fn.kept
