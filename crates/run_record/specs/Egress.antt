-- What a record gave to the egresses, and the text of it.
use Rattle.std.specs.Prelude.{◌≡◌, ℕ, List, [], ◌∷◌, ◌++◌, map, Some, Result, Ok, Err}
use Rattle.std.specs.Option.{option_map_or}
use Rattle.std.specs.List.{flat_map}
use Rattle.proto_wire.specs.declared.fault.WireFault.{WireFault}
use Rattle.typed_values.specs.declared.name.TypeName.{TypeName}
use Rattle.typed_values.specs.declared.address.Address.{Address}
use Rattle.typed_values.specs.declared.record.EgressRecord.{EgressRecord}
use Rattle.typed_values.specs.Escape.{escaped, name_text, address_text, value_text}
use Rattle.request_reply.specs.declared.answer.FromFunction.{FromFunction}
use Rattle.request_reply.specs.declared.answer.FromFunction.TheVariants as answers
use Rattle.request_reply.specs.Spelling.{from_value}
use Rattle.run_record.specs.declared.entry.Entry.{Entry}
use Rattle.run_record.specs.declared.entry.Reply.{Reply}
use Rattle.sf_outside.specs.Splits.{Lists}
use Rattle.address_routing.specs.declared.module.Module.{Module}
use Rattle.run_record.specs.Machine.{State, first_state, arguments_at, reply_of}
use Rattle.run_record.specs.Record.{replayed}
use Rattle.invocation.specs.Effects.{egress_record}

-- what the result that bytes spell gives to egresses, whatever the cells
abbrev pub records_spelled : Address → Result FromFunction WireFault → List EgressRecord
records_spelled sender (Ok (answers.Result response)) = map (egress_record sender) response.outgoing_egresses
records_spelled sender (Ok (answers.Incomplete context)) = []
records_spelled sender (Err fault) = []

abbrev pub records_of_reply : Reply → List EgressRecord
records_of_reply reply = records_spelled reply.address (from_value reply.answer)

-- the egress of a record, in its order
unfoldable pub egress_of : List Entry → List EgressRecord
egress_of entries = flat_map (λ entry. option_map_or records_of_reply (reply_of entry.step) []) entries

-- ---- the text

-- `SENDER EGRESS TYPENAME HEX`
abbrev pub egress_line : EgressRecord → List ℕ
egress_line r = address_text r.sender ++ 32 ∷ (name_text r.egress ++ 32 ∷ (escaped r.argument.typename ++ 32 ∷ (value_text r.argument ++ 10 ∷ [])))

-- a line for each record
unfoldable pub egress_text : List EgressRecord → List ℕ
egress_text records = flat_map egress_line records

-- ---- a law

-- what the machine keeps of an address and an egress is what the record's answers spell for them
abbrev pub EgressIsOfAnswers : Type 0
EgressIsOfAnswers =
    (m : Module) (lists : Lists) (last : State) (entries : List Entry) → replayed m lists first_state entries ≡ Some last
    → (address : Address) (name : TypeName) → last.egress address name ≡ arguments_at address name (egress_of entries)
