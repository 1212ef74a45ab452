-- When two patterns of type names are one.
use Rattle.std.specs.Prelude.{ℕ, List, Bool, true, false, ◌&&◌, Option, Some, None}
use Rattle.typed_values.specs.declared.pattern.TypePattern.{TypePattern}
use Rattle.typed_values.specs.Sameness.{same_bytes}

abbrev pub same_pattern_name : Option (List ℕ) → Option (List ℕ) → Bool
same_pattern_name None None = true
same_pattern_name (Some a) (Some b) = same_bytes a b
same_pattern_name None (Some b) = false
same_pattern_name (Some a) None = false

abbrev pub same_pattern : TypePattern → TypePattern → Bool
same_pattern a b = same_bytes a.namespace b.namespace && same_pattern_name a.name b.name
