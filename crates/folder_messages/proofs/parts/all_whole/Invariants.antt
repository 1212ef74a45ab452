use Rattle.std.proofs.Common.{◌≡◌, ◌++◌}
use Rattle.std.specs.Option.{option_map}
use Rattle.folder_messages.specs.Parts.{all_of}
use Rattle.folder_messages.proofs.parts.all_whole.Given as goal

-- those so far, in front of those that are left, where none of these lacks anything
abbrev pub invariant-loop-one : goal.invariant-loop-one
invariant-loop-one g l = option_map (λ rest. l.all ++ rest) (all_of g.P.Parts.whole l.one-iterator.rest.items) ≡ all_of g.P.Parts.whole l.fn.parts
