-- What stands under a key of a module file, and what of it is refused.
use Rattle.std.specs.Prelude.{ℕ, ◌==◌, nat_le, nat_eq, Bool, true, false, not, ◌&&◌, ◌||◌, if◌then◌else◌, List, [], ◌∷◌, codes, drop, slice_index, Option, Some, None, is_some, option_and_then, Result, Ok, Err}
use Rattle.std.specs.Option.{option_map_or}
use Rattle.std.specs.List.{list_any, starts_with}
use Rattle.std.specs.Str.{bytes_eq, all_ascii_digits}
use Rattle.std.specs.Str.Parse.{digits_value}
use Rattle.proto_wire.specs.declared.module_kind.ModuleKind.TheVariants.{BadValue}
use Rattle.typed_values.specs.declared.name.TypeName.{TypeName}
use Rattle.typed_values.specs.declared.pattern.TypePattern.{TypePattern}
use Rattle.typed_values.specs.Names.{name_in}
use Rattle.address_routing.specs.Routing.{filled}
use Rattle.address_routing.specs.Urls.{http_target}
use Rattle.yaml_block.specs.declared.node.Node.{Node, out-Node}
use Rattle.yaml_block.specs.declared.node.Pair.{Pair, out-Pair}
use Rattle.module_yaml.specs.declared.fault.Refusal.{Refusal}
use Rattle.module_yaml.specs.Nodes.{text_of, items_of}

abbrev pub bad : {A : Type 0} → ℕ → Result A Refusal
bad line = Err (record { line = line; kind = BadValue })

-- a value, or a bad value on this line
abbrev pub or_bad : {A : Type 0} → ℕ → Option A → Result A Refusal
or_bad line (Some value) = Ok value
or_bad line None = bad line

-- a scalar with a text that says something, at its key
abbrev pub scalar : {A : Type 0} → (List ℕ → Option A) → Pair → Result A Refusal
scalar says pair = or_bad (out-Pair pair).line (option_and_then says (text_of (out-Pair pair).value))

-- ---- names

abbrev pub is_star : List ℕ → Bool
is_star name = bytes_eq name (codes "*")

abbrev pub is_white : ℕ → Bool
is_white byte = byte == 32 || byte == 9

abbrev pub no_star : TypeName → Option TypeName
no_star name = if is_star name.name then None else Some name

-- a type's name
abbrev pub type_in : List ℕ → Option TypeName
type_in text = option_and_then no_star (name_in text)

-- an id is a name without white space
abbrev pub id_in : List ℕ → Option TypeName
id_in text = if list_any is_white text then None else type_in text

-- `ns/*` or `ns/name`
abbrev pub pattern_of : TypeName → TypePattern
pattern_of name = record { namespace = name.namespace; name = if is_star name.name then None else Some name.name }

abbrev pub pattern_in : List ℕ → Option TypePattern
pattern_in text = option_and_then (λ name. Some (pattern_of name)) (name_in text)

-- ---- texts and numbers

abbrev pub some_text_in : List ℕ → Option (List ℕ)
some_text_in [] = None
some_text_in (byte ∷ bytes) = Some (byte ∷ bytes)

-- a brace stands before the first slash
abbrev pub braced_host : List ℕ → Bool
braced_host [] = false
braced_host (byte ∷ bytes) = if byte == 47 then false else (if byte == 123 then true else braced_host bytes)

-- a URL of the scheme `http` for each function's name, with a host that does not depend on it
abbrev pub is_template : List ℕ → Bool
is_template text =
    starts_with nat_eq text (codes "http://") && (not (braced_host (drop 7 text)) && is_some (http_target (filled (codes "x") text)))

abbrev pub template_in : List ℕ → Option (List ℕ)
template_in text = if is_template text then Some text else None

abbrev pub number_within : ℕ → ℕ → ℕ → Option ℕ
number_within least most number = if nat_le least number && nat_le number most then Some number else None

-- decimal digits without a leading zero, of a number within these bounds
unfoldable pub number_in : ℕ → ℕ → List ℕ → Option ℕ
number_in least most text =
    if all_ascii_digits text && not (slice_index text 0 == 48) then number_within least most (digits_value 10 text) else None

-- ---- targets

abbrev pub target_of : Node → Result TypeName Refusal
target_of item = or_bad (out-Node item).line (option_and_then type_in (text_of item))

abbrev pub and_target : Result TypeName Refusal → Result (List TypeName) Refusal → Result (List TypeName) Refusal
and_target (Err refusal) others = Err refusal
and_target (Ok name) (Ok names) = Ok (name ∷ names)
and_target (Ok name) (Err refusal) = Err refusal

-- each item is a type's name
abbrev pub targets_of : List Node → Result (List TypeName) Refusal
targets_of [] = Ok []
targets_of (item ∷ items) = and_target (target_of item) (targets_of items)

-- at least one
abbrev pub some_targets : ℕ → List Node → Result (List TypeName) Refusal
some_targets line [] = bad line
some_targets line (item ∷ items) = targets_of (item ∷ items)

abbrev pub targets_at : Pair → Result (List TypeName) Refusal
targets_at pair = option_map_or (some_targets (out-Pair pair).line) (items_of (out-Pair pair).value) (bad (out-Pair pair).line)
