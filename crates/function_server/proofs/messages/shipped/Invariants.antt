use Rattle.std.proofs.Common.{◌≡◌, drop}
use Rattle.function_server.specs.Demonstration.{shipped}
use Rattle.function_server.proofs.messages.shipped.Given as goal

-- what is left decides
abbrev pub invariant-loop-cell : goal.invariant-loop-cell
invariant-loop-cell l = shipped (drop l.cell-index l.state) l.name ≡ shipped l.state l.name
