use Rattle.std.proofs.Common.{◌≡◌, drop, max}
use Rattle.folder_form.specs.Pieces.{latest_cell}
use Rattle.folder_form.proofs.states.latest_cell.Given as goal

abbrev pub invariant-loop-cell : goal.invariant-loop-cell
invariant-loop-cell l = max l.latest (latest_cell (drop l.cell-index l.cells)) ≡ latest_cell l.cells
