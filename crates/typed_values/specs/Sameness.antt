-- Whether two texts, names, addresses or senders are the same: what `==` on them answers.
use Rattle.std.specs.Prelude.{ℕ, nat_eq, List, Bool}
use Rattle.std.specs.Cmp.Lexicographic.{pointwise}
use Rattle.typed_values.specs.declared.name.TypeName.{TypeName}
use Rattle.typed_values.specs.declared.address.Address.{Address}
use Rattle.typed_values.specs.declared.letter.Sender.{Sender}
use Rattle.typed_values.specs.contracts.name.TypeNamePartialEq.TheImpl as names
use Rattle.typed_values.specs.contracts.address.AddressPartialEq.TheImpl as addresses
use Rattle.typed_values.specs.contracts.letter.SenderPartialEq.TheImpl as senders

abbrev pub same_bytes : List ℕ → List ℕ → Bool
same_bytes = pointwise nat_eq

unfoldable pub same_name : TypeName → TypeName → Bool
same_name = (names.ghosts).eq

unfoldable pub same_address : Address → Address → Bool
same_address = (addresses.ghosts).eq

unfoldable pub same_sender : Sender → Sender → Bool
same_sender = (senders.ghosts).eq
