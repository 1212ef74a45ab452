use Rattle.std.proofs.Common.{◌≡◌, ◌++◌, drop}
use Rattle.std.specs.String.{string_bytes}
use Rattle.typed_values.specs.Escape.{escaped}
use Rattle.address_routing.proofs.text.with_escaped.Given as goal

-- what is written, and what the bytes that are left add
abbrev pub invariant-loop-byte : goal.invariant-loop-byte
invariant-loop-byte l = string_bytes l.more ++ escaped (drop l.byte-index l.byte-items) ≡ string_bytes l.initial.more ++ escaped l.byte-items
