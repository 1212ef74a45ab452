use Rattle.std.proofs.Common.{◌≡◌, ◌++◌, drop, map}
use Rattle.std.specs.String.{string_bytes}
use Rattle.typed_values.specs.Escape.{name_text}
use Rattle.address_routing.specs.JobText.{rest_of_line}
use Rattle.address_routing.proofs.text.with_targets.Given as goal

-- what is written, and the names that are left
abbrev pub invariant-loop-target : goal.invariant-loop-target
invariant-loop-target l =
    string_bytes l.more ++ rest_of_line (map name_text (drop l.target-index l.targets)) ≡ string_bytes l.initial.more ++ rest_of_line (map name_text l.targets)
