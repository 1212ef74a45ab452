-- How names, addresses and values are printed in the words of a line.
use Rattle.std.specs.Prelude.{◌≡◌, ℕ, ◌+◌, ◌/◌, ◌%◌, nat_lt, List, [], ◌∷◌, ◌++◌, ◌||◌, ◌==◌, codes, if◌then◌else◌}
use Rattle.std.specs.List.{flat_map}
use Rattle.typed_values.specs.declared.name.TypeName.{TypeName}
use Rattle.typed_values.specs.declared.address.Address.{Address}
use Rattle.typed_values.specs.declared.value.TypedValue.{TypedValue}

-- these bytes, with some behind them
abbrev pub StartsAs : List ℕ → List ℕ → Type 0
StartsAs front bytes = (rest : List ℕ) × (bytes ≡ front ++ rest)

-- a digit of a number below 16, in upper case and in lower case
abbrev pub upper_digit : ℕ → ℕ
upper_digit n = if nat_lt n 10 then 48 + n else 55 + n

abbrev pub lower_digit : ℕ → ℕ
lower_digit n = if nat_lt n 10 then 48 + n else 87 + n

-- a byte that is no visible ASCII character, and the percent sign, as `%` and two digits
abbrev pub escaped_byte : ℕ → List ℕ
escaped_byte byte =
    if nat_lt byte 33 || nat_lt 126 byte || byte == 37
    then 37 ∷ upper_digit (byte / 16) ∷ upper_digit (byte % 16) ∷ []
    else byte ∷ []

abbrev pub escaped : List ℕ → List ℕ
escaped bytes = flat_map escaped_byte bytes

abbrev pub hex_byte : ℕ → List ℕ
hex_byte byte = lower_digit (byte / 16) ∷ lower_digit (byte % 16) ∷ []

abbrev pub hex : List ℕ → List ℕ
hex bytes = flat_map hex_byte bytes

-- `namespace/name`
abbrev pub name_text : TypeName → List ℕ
name_text n = escaped n.namespace ++ 47 ∷ escaped n.name

-- `namespace/name/id`
abbrev pub address_text : Address → List ℕ
address_text a = name_text a.kind ++ 47 ∷ escaped a.id

-- the value's bytes, or `none`
abbrev pub value_text : TypedValue → List ℕ
value_text v = if v.has_value then hex v.value else codes "none"
