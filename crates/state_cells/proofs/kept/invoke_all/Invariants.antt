use Rattle.std.proofs.Common.{◌≡◌, ◌++◌, map, take, drop, length}
use Rattle.typed_values.specs.Cells.{invoked}
use Rattle.state_cells.specs.Kept.{after_each}
use Rattle.state_cells.proofs.kept.invoke_all.Given as goal

-- the cells in front are invoked
abbrev pub invariant-loop-place : goal.invariant-loop-place
invariant-loop-place l = (l.cells.entries ≡ map (after_each (invoked l.moment)) (take l.place l.fn.cells.entries) ++ drop l.place l.fn.cells.entries)
    × (length l.cells.entries ≡ length l.fn.cells.entries)
