use Rattle.std.proofs.Common.{◌≡◌, drop}
use Rattle.function_server.specs.Answering.{is_named}
use Rattle.function_server.proofs.answering.is_named.Given as goal

-- what is left decides
abbrev pub invariant-loop-value : goal.invariant-loop-value
invariant-loop-value l = is_named (drop l.value-index l.state) l.cell ≡ is_named l.state l.cell
