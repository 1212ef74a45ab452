-- The orders of names, addresses and senders.
use Rattle.std.specs.declared.cmp.Ordering.{Ordering}
use Rattle.typed_values.specs.declared.name.TypeName.{TypeName}
use Rattle.typed_values.specs.declared.address.Address.{Address}
use Rattle.typed_values.specs.declared.letter.Sender.{Sender}
use Rattle.typed_values.specs.contracts.name.TypeNameOrd.TheImpl as name_ord
use Rattle.typed_values.specs.contracts.address.AddressOrd.TheImpl as address_ord
use Rattle.typed_values.specs.contracts.letter.SenderOrd.TheImpl as sender_ord

-- by namespace, and then by name
abbrev pub name_order : TypeName → TypeName → Ordering
name_order = (name_ord.ghosts).cmp

-- by type, and then by id
abbrev pub address_order : Address → Address → Ordering
address_order = (address_ord.ghosts).cmp

-- splits by number, and then functions by address
abbrev pub sender_order : Sender → Sender → Ordering
sender_order = (sender_ord.ghosts).cmp
