use Rattle.std.proofs.Common.{◌≡◌, ◌++◌, take}
use Rattle.typed_values.specs.Escape.{escaped}
use Rattle.typed_values.proofs.escape.put_escaped.Given as goal

-- the bytes so far are added
abbrev pub invariant-loop-byte : goal.invariant-loop-byte
invariant-loop-byte l = l.into ≡ l.initial.into ++ escaped (take l.byte-index l.bytes)
