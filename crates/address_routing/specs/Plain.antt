-- Modules that their text stands for.
use Rattle.std.specs.Prelude.{◌≡◌, ℕ, ◌^◌, nat_lt, Bool, true, not, ◌&&◌, ◌==◌, List, codes}
use Rattle.std.specs.Option.{option_map_or}
use Rattle.std.specs.List.{list_any, list_all}
use Rattle.std.specs.Str.{bytes_eq}
use Rattle.typed_values.specs.declared.name.TypeName.{TypeName}
use Rattle.typed_values.specs.declared.pattern.TypePattern.{TypePattern}
use Rattle.address_routing.specs.declared.module.Module.{Module}
use Rattle.address_routing.specs.declared.module.Endpoint.{Endpoint}
use Rattle.address_routing.specs.declared.module.IngressSpec.{IngressSpec}
use Rattle.address_routing.specs.JobText.{job_text}

abbrev pub has_no_slash : List ℕ → Bool
has_no_slash name = not (list_any (λ byte. byte == 47) name)

-- a name as a text spells it: what stands behind its last slash has none
abbrev pub is_plain_name : TypeName → Bool
is_plain_name name = has_no_slash name.name

-- and the name of a pattern is not the star that stands for all names
abbrev pub is_plain_pattern : TypePattern → Bool
is_plain_pattern pattern = option_map_or (λ name. has_no_slash name && not (bytes_eq name (codes "*"))) pattern.name true

-- a number of at most 64 bits
abbrev pub is_number : ℕ → Bool
is_number n = nat_lt n (2 ^ 64)

abbrev pub is_plain_endpoint : Endpoint → Bool
is_plain_endpoint e =
    is_plain_pattern e.pattern && (is_number e.max_letters && (is_number e.max_bytes && (is_number e.attempts && is_number e.patience)))

abbrev pub is_plain_ingress : IngressSpec → Bool
is_plain_ingress i = is_plain_name i.id && (is_number i.splits && list_all is_plain_name i.targets)

unfoldable pub is_plain : Module → Bool
is_plain m = list_all is_plain_endpoint m.endpoints && (list_all is_plain_ingress m.ingresses && list_all is_plain_name m.egresses)

-- two such modules with one text are one
abbrev pub TextTellsModule : Type 0
TextTellsModule = (m n : Module) → is_plain m ≡ true → is_plain n ≡ true → job_text m ≡ job_text n →
    (m.endpoints ≡ n.endpoints) × (m.ingresses ≡ n.ingresses) × (m.egresses ≡ n.egresses)
