use Rattle.std.proofs.Common.{◌≡◌, map, length}
use Rattle.typed_values.specs.Sameness.{same_bytes}
use Rattle.address_routing.specs.Routing.{all_apart}
use Rattle.folder_form.specs.Pieces.{cell_name}
use Rattle.folder_form.proofs.states.are_apart.Given as goal

abbrev pub invariant-loop-cell : goal.invariant-loop-cell
invariant-loop-cell l = all_apart same_bytes (map cell_name l.rest) ≡ all_apart same_bytes (map cell_name l.cells)

abbrev pub decreases-loop-cell : goal.decreases-loop-cell
decreases-loop-cell l = length l.rest
