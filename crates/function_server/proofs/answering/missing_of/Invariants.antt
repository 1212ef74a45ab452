use Rattle.std.proofs.Common.{◌≡◌, ◌++◌, drop}
use Rattle.function_server.specs.Answering.{missing_of}
use Rattle.function_server.proofs.answering.missing_of.Given as goal

-- those found so far, and those among what is left
abbrev pub invariant-loop-cell : goal.invariant-loop-cell
invariant-loop-cell l = l.missing ++ missing_of (drop l.cell-index l.declares) l.state ≡ missing_of l.declares l.state
