use Rattle.std.proofs.Common.{◌≡◌, map, take}
use Rattle.partition_core.specs.States.{kept_cell}
use Rattle.partition_core.proofs.keeping.kept_cells.Given as goal

-- the cells so far
abbrev pub invariant-loop-place : goal.invariant-loop-place
invariant-loop-place l = l.kept ≡ map kept_cell (take l.place l.cells)
