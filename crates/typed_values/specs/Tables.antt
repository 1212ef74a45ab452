-- The fields of addresses and values.
use Rattle.std.specs.Prelude.{false, List, [], ◌∷◌}
use Rattle.proto_wire.specs.Message.{Row, texts, bytes, bools}
use Rattle.typed_values.specs.declared.address.Address.{Address}
use Rattle.typed_values.specs.declared.name.TypeName.{TypeName}
use Rattle.typed_values.specs.declared.value.TypedValue.{TypedValue}

abbrev pub empty_name : TypeName
empty_name = record { namespace = []; name = [] }

unfoldable pub empty_address : Address
empty_address = record { kind = empty_name; id = [] }

unfoldable pub address_rows : List (Row Address)
address_rows =
    texts 1 (λ address. address.kind.namespace) (λ address text. record address { kind = record { namespace = text; name = address.kind.name } })
    ∷ texts 2 (λ address. address.kind.name) (λ address text. record address { kind = record { namespace = address.kind.namespace; name = text } })
    ∷ texts 3 (λ address. address.id) (λ address text. record address { id = text })
    ∷ []

unfoldable pub empty_value : TypedValue
empty_value = record { typename = []; has_value = false; value = [] }

unfoldable pub value_rows : List (Row TypedValue)
value_rows =
    texts 1 (λ value. value.typename) (λ value text. record value { typename = text })
    ∷ bools 2 (λ value. value.has_value) (λ value flag. record value { has_value = flag })
    ∷ bytes 3 (λ value. value.value) (λ value payload. record value { value = payload })
    ∷ []
