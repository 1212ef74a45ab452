-- Whether nothing is in front.
use Rattle.std.proofs.Common.{◌≡◌, refl, List, [], ◌∷◌, true, false, slice_get, Some, None, option_map}
use Rattle.typed_values.specs.declared.address.Address.{Address}
use Rattle.typed_values.specs.declared.record.Delay.{Delay}
use Rattle.typed_values.specs.Delays.{earliest}
use Rattle.delayed_messages.specs.Waiting.{best_of}
use Rattle.partition_core.specs.Work.{is_empty}

pub none_first : (line : List Address) → None ≡ slice_get line 0 → true ≡ is_empty line
none_first [] e = refl
none_first (x ∷ xs) e = absurd cc

pub some_first : (line : List Address) (first : Address) → Some first ≡ slice_get line 0 → false ≡ is_empty line
some_first [] first e = absurd cc
some_first (x ∷ xs) first e = refl

pub none_earliest : (delays : List Delay) → None ≡ option_map best_of (earliest delays) → true ≡ is_empty delays
none_earliest [] e = refl
none_earliest (x ∷ xs) e = absurd cc

pub some_earliest : (delays : List Delay) (first : Delay) → Some first ≡ option_map best_of (earliest delays) → false ≡ is_empty delays
some_earliest [] first e = absurd cc
some_earliest (x ∷ xs) first e = refl
