-- The letters that a record of an ingress becomes.
use Rattle.std.specs.Prelude.{ℕ, List, [], true, map}
use Rattle.std.specs.Option.{option_map_or}
use Rattle.typed_values.specs.declared.name.TypeName.{TypeName}
use Rattle.typed_values.specs.declared.letter.Sender.TheVariants.{Split}
use Rattle.typed_values.specs.declared.letter.Letter.{Letter}
use Rattle.sf_outside.specs.declared.ingress.IngressRecord.{IngressRecord}
use Rattle.address_routing.specs.declared.module.Module.{Module}
use Rattle.address_routing.specs.Routing.{ingress_of}

-- a record as the letter to one target: the address' id is the record's key
abbrev pub letter_of : ℕ → List ℕ → IngressRecord → TypeName → Letter
letter_of split value_type taken target = record {
  sender = Split split;
  target = record { kind = target; id = taken.key };
  argument = record { typename = value_type; has_value = true; value = taken.value };
}

-- the letters that a split's record becomes, one for each target in order
unfoldable pub letters_of : Module → ℕ → IngressRecord → List Letter
letters_of m split taken = option_map_or (λ ingress. map (letter_of split ingress.value_type taken) ingress.targets) (ingress_of m split) []
