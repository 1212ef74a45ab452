use Rattle.std.proofs.Common.{◌≡◌, map, take}
use Rattle.typed_values.specs.Cells.{shipped}
use Rattle.state_cells.proofs.kept.ship_all.Given as goal

-- what was shipped so far
abbrev pub invariant-loop-cell : goal.invariant-loop-cell
invariant-loop-cell l = l.list ≡ map (shipped l.moment) (take l.cell-index l.cells)
