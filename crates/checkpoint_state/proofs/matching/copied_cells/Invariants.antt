use Rattle.std.proofs.Common.{◌≡◌, take}
use Rattle.checkpoint_state.proofs.matching.copied_cells.Given as goal

-- what was copied so far
abbrev pub invariant-loop-cell : goal.invariant-loop-cell
invariant-loop-cell l = l.copy ≡ take l.cell-index l.cells
