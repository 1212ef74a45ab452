-- A module as text.
use Rattle.std.specs.Prelude.{ℕ, List, [], ◌∷◌, ◌++◌, codes, map}
use Rattle.std.specs.Option.{option_map_or}
use Rattle.std.specs.List.{flat_map}
use Rattle.std.specs.Fmt.{decimal}
use Rattle.typed_values.specs.declared.name.TypeName.{TypeName}
use Rattle.typed_values.specs.declared.pattern.TypePattern.{TypePattern}
use Rattle.typed_values.specs.Escape.{escaped, name_text}
use Rattle.address_routing.specs.declared.module.Module.{Module}
use Rattle.address_routing.specs.declared.module.Endpoint.{Endpoint}
use Rattle.address_routing.specs.declared.module.IngressSpec.{IngressSpec}

-- words behind another one, each with a space before it, and LF
abbrev pub rest_of_line : List (List ℕ) → List ℕ
rest_of_line [] = 10 ∷ []
rest_of_line (word ∷ words) = 32 ∷ (word ++ rest_of_line words)

-- a line: words with a space between each two, and LF
abbrev pub line : List ℕ → List (List ℕ) → List ℕ
line word words = word ++ rest_of_line words

-- `namespace/name`, or `namespace/*` for all names
abbrev pub pattern_text : TypePattern → List ℕ
pattern_text pattern = escaped pattern.namespace ++ 47 ∷ option_map_or escaped pattern.name (codes "*")

abbrev pub endpoint_words : Endpoint → List (List ℕ)
endpoint_words e =
    pattern_text e.pattern ∷ escaped e.template ∷ decimal e.max_letters ∷ decimal e.max_bytes ∷ decimal e.attempts ∷ decimal e.patience ∷ []

abbrev pub ingress_words : IngressSpec → List (List ℕ)
ingress_words i = name_text i.id ∷ decimal i.splits ∷ escaped i.value_type ∷ map name_text i.targets

abbrev pub endpoint_line : Endpoint → List ℕ
endpoint_line e = line (codes "endpoint") (endpoint_words e)

abbrev pub ingress_line : IngressSpec → List ℕ
ingress_line i = line (codes "ingress") (ingress_words i)

abbrev pub egress_line : TypeName → List ℕ
egress_line name = line (codes "egress") (name_text name ∷ [])

-- the endpoints, then the ingresses, then the egresses, each in order
unfoldable pub job_text : Module → List ℕ
job_text m = flat_map endpoint_line m.endpoints ++ (flat_map ingress_line m.ingresses ++ flat_map egress_line m.egresses)
