use Rattle.std.proofs.Common.{◌≡◌, drop, map}
use Rattle.typed_values.specs.Cells.{empty}
use Rattle.request_reply.specs.Flaws.{type_of}
use Rattle.request_reply.proofs.missing.type_in.Given as goal

-- none of the declarations so far has the name
abbrev pub invariant-loop-spec : goal.invariant-loop-spec
invariant-loop-spec l = type_of l.name (map empty (drop l.spec-index l.specs)) ≡ type_of l.name (map empty l.specs)
