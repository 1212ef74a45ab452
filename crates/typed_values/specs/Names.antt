-- How names are spelled.
use Rattle.std.specs.Prelude.{◌≡◌, ◌↔◌, ◌<◌, ◌++◌, count_by, ℕ, nat_eq, List, [], ◌∷◌, ◌||◌, length, if◌then◌else◌, Option, Some, None, option_and_then}
use Rattle.typed_values.specs.declared.name.TypeName.{TypeName}

-- the parts of a text round its last slash: a byte goes before what the others give
abbrev pub slash_at_last : ℕ → List ℕ → Option (List ℕ × List ℕ) → Option (List ℕ × List ℕ)
slash_at_last byte bytes (Some parts) = Some (byte ∷ parts.0, parts.1)
slash_at_last byte bytes None = if nat_eq byte 47 then Some ([], bytes) else None

abbrev pub round_last_slash : List ℕ → Option (List ℕ × List ℕ)
round_last_slash [] = None
round_last_slash (byte ∷ bytes) = slash_at_last byte bytes (round_last_slash bytes)

-- a namespace and a name, neither empty
abbrev pub named : List ℕ × List ℕ → Option TypeName
named parts = if nat_eq (length parts.0) 0 || nat_eq (length parts.1) 0 then None else Some (record { namespace = parts.0; name = parts.1 })

-- the name that a text spells: what stands before its last slash, and what stands behind it
unfoldable pub name_in : List ℕ → Option TypeName
name_in text = option_and_then named (round_last_slash text)

-- a text that is a namespace, a slash and a name without a slash, neither of them empty
pub record IsName (text : List ℕ) (name : TypeName) : Type 0 where
  pub is : text ≡ name.namespace ++ 47 ∷ name.name
  pub has_namespace : 0 < length name.namespace
  pub has_name : 0 < length name.name
  pub has_no_slash : count_by (nat_eq 47) name.name ≡ 0

-- the name in a text is the one that it is so made of, where there is one
abbrev pub NamesAreMadeSo : Type 0
NamesAreMadeSo = (text : List ℕ) (name : TypeName) → (name_in text ≡ Some name) ↔ IsName text name
