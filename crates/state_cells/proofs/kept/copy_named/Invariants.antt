use Rattle.std.proofs.Common.{◌≡◌, map, take}
use Rattle.state_cells.specs.Kept.{under_name}
use Rattle.state_cells.proofs.kept.copy_named.Given as goal

-- what was copied so far
abbrev pub invariant-loop-cell : goal.invariant-loop-cell
invariant-loop-cell l = l.copy.entries ≡ map under_name (take l.cell-index l.cells)
