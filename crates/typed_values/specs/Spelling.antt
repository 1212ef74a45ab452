-- The canonical spellings of addresses, values, senders, letters, delayed letters and egress records, and what bytes spell.
use Rattle.std.specs.Prelude.{ℕ, List, length, Some, Result}
use Rattle.proto_wire.specs.declared.fault.WireFault.{WireFault}
use Rattle.proto_wire.specs.Varint.{◌>>=◌}
use Rattle.proto_wire.specs.Places.{present}
use Rattle.proto_wire.specs.Message.{value_of, spelling}
use Rattle.typed_values.specs.declared.address.Address.{Address}
use Rattle.typed_values.specs.declared.value.TypedValue.{TypedValue}
use Rattle.typed_values.specs.declared.letter.Sender.{Sender}
use Rattle.typed_values.specs.declared.letter.Letter.{Letter}
use Rattle.typed_values.specs.declared.record.Delay.{Delay}
use Rattle.typed_values.specs.declared.record.EgressRecord.{EgressRecord}
use Rattle.typed_values.specs.Tables.{empty_address, address_rows, empty_value, value_rows}
use Rattle.typed_values.specs.Stored.{empty_sender, sender_rows, empty_letter, letter_rows, letter_read, letter_of}
use Rattle.typed_values.specs.Stored.{empty_delay, delay_rows, delay_read, delay_of, empty_egress, egress_rows, egress_read, egress_of}

unfoldable pub address_spelling : Address → List ℕ
address_spelling address = spelling address_rows address

unfoldable pub address_value : List ℕ → Result Address WireFault
address_value bytes = value_of address_rows empty_address bytes

unfoldable pub value_spelling : TypedValue → List ℕ
value_spelling value = spelling value_rows value

unfoldable pub value_value : List ℕ → Result TypedValue WireFault
value_value bytes = value_of value_rows empty_value bytes

unfoldable pub sender_spelling : Sender → List ℕ
sender_spelling sender = spelling sender_rows (record { member = Some sender })

unfoldable pub sender_value : List ℕ → Result Sender WireFault
sender_value bytes = value_of sender_rows empty_sender bytes >>= λ it. present (length bytes) it.member

unfoldable pub letter_spelling : Letter → List ℕ
letter_spelling letter = spelling letter_rows (letter_read letter)

unfoldable pub letter_value : List ℕ → Result Letter WireFault
letter_value bytes = value_of letter_rows empty_letter bytes >>= λ it. present (length bytes) (letter_of it)

unfoldable pub delay_spelling : Delay → List ℕ
delay_spelling delay = spelling delay_rows (delay_read delay)

unfoldable pub delay_value : List ℕ → Result Delay WireFault
delay_value bytes = value_of delay_rows empty_delay bytes >>= λ it. present (length bytes) (delay_of it)

unfoldable pub egress_spelling : EgressRecord → List ℕ
egress_spelling egress = spelling egress_rows (egress_read egress)

unfoldable pub egress_value : List ℕ → Result EgressRecord WireFault
egress_value bytes = value_of egress_rows empty_egress bytes >>= λ it. present (length bytes) (egress_of it)
