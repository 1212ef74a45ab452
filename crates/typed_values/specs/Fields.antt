-- What the fields of each message are, by one record: so the laws of the wire format say what they are of whole bytes.
use Rattle.std.specs.Prelude.{ℕ, List, Bool, Option, Some, None, Ok}
use Rattle.proto_wire.specs.Record.{Item}
use Rattle.proto_wire.specs.Message.{belongs, text_of, bool_of}
use Rattle.proto_wire.specs.Encoding.{IsScalar, IsSingular, IsMember}
use Rattle.typed_values.specs.Tables.{empty_address, address_rows, empty_value, value_rows}
use Rattle.typed_values.specs.Stored.{function_of, empty_sender, sender_rows, letter_rows, delay_rows, egress_rows}

-- the fields of an address
pub record AddressFields : Type 0 where
  pub namespace : IsScalar address_rows 1 2 text_of (λ it. it.kind.namespace)
  pub name : IsScalar address_rows 2 2 text_of (λ it. it.kind.name)
  pub id : IsScalar address_rows 3 2 text_of (λ it. it.id)

-- the fields of a value
pub record ValueFields : Type 0 where
  pub typename : IsScalar value_rows 1 2 text_of (λ it. it.typename)
  pub has_value : IsScalar value_rows 2 0 (λ item. Ok (bool_of item)) (λ it. it.has_value)
  pub value : IsScalar value_rows 3 2 (λ item. Ok item.payload) (λ it. it.value)

-- the fields of a letter
pub record LetterFields : Type 0 where
  pub sender : IsSingular letter_rows sender_rows empty_sender 1 2 (λ it. it.sender)
  pub target : IsSingular letter_rows address_rows empty_address 2 2 (λ it. it.target)
  pub argument : IsSingular letter_rows value_rows empty_value 3 2 (λ it. it.argument)

-- the fields of a delayed letter
pub record DelayFields : Type 0 where
  pub sender : IsSingular delay_rows address_rows empty_address 1 2 (λ it. it.sender)
  pub due : IsScalar delay_rows 2 0 (λ item. Ok item.number) (λ it. it.due)
  pub target : IsSingular delay_rows address_rows empty_address 3 2 (λ it. it.target)
  pub token : IsScalar delay_rows 4 2 text_of (λ it. it.token)
  pub argument : IsSingular delay_rows value_rows empty_value 5 2 (λ it. it.argument)

-- the fields of an egress record
pub record EgressFields : Type 0 where
  pub sender : IsSingular egress_rows address_rows empty_address 1 2 (λ it. it.sender)
  pub namespace : IsScalar egress_rows 2 2 text_of (λ it. it.namespace)
  pub name : IsScalar egress_rows 3 2 text_of (λ it. it.name)
  pub argument : IsSingular egress_rows value_rows empty_value 4 2 (λ it. it.argument)

-- a function as a sender is a member, and a split is the other one
pub record SenderMember : Type 0 where
  pub function : IsMember sender_rows address_rows empty_address 2 2 (belongs 1 0) (λ it. function_of it.member)
