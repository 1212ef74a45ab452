use Rattle.std.proofs.Common.{◌≡◌, drop}
use Rattle.std.specs.Prelude.{find}
use Rattle.typed_values.specs.Sameness.{same_name}
use Rattle.function_server.proofs.table.answer_in.Given as goal

-- the first of the name is among those that are left
abbrev pub invariant-loop-entry : goal.invariant-loop-entry
invariant-loop-entry g l = find (λ e. same_name e.0 l.kind) (drop l.entry-index l.entries) ≡ find (λ e. same_name e.0 l.kind) l.entries
