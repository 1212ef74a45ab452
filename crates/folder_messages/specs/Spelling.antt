-- The canonical spellings, and the values that bytes spell.
use Rattle.std.specs.Prelude.{ℕ, List, Some, Result}
use Rattle.proto_wire.specs.declared.fault.WireFault.{WireFault}
use Rattle.proto_wire.specs.Record.{number_record, bytes_record}
use Rattle.proto_wire.specs.Message.{spelling}
use Rattle.sf_outside.specs.declared.call.Call.{Call}
use Rattle.run_record.specs.declared.entry.Entry.{Entry}
use Rattle.run_record.specs.declared.entry.Step.{Step}
use Rattle.run_record.specs.declared.entry.Step.TheVariants.{Take, Batch, Register, Due}
use Rattle.run_record.specs.declared.entry.Reply.{Reply}
use Rattle.folder_messages.specs.declared.due_step.DueStep.{DueStep}
use Rattle.folder_messages.specs.Parts.{whole_value}
use Rattle.folder_messages.specs.Entries.{empty_call, call_rows, call_read, call_of, empty_reply, reply_rows, reply_read, reply_of}
use Rattle.folder_messages.specs.Entries.{empty_due, due_rows, due_read, due_of, empty_entry, entry_rows, entry_read, entry_of}

unfoldable pub call_spelling : Call → List ℕ
call_spelling call = spelling call_rows (call_read call)

unfoldable pub call_value : List ℕ → Result Call WireFault
call_value bytes = whole_value call_rows empty_call (λ it. Some (call_of it)) bytes

unfoldable pub reply_spelling : Reply → List ℕ
reply_spelling reply = spelling reply_rows (reply_read reply)

unfoldable pub reply_value : List ℕ → Result Reply WireFault
reply_value bytes = whole_value reply_rows empty_reply reply_of bytes

unfoldable pub due_spelling : DueStep → List ℕ
due_spelling due = spelling due_rows (due_read due)

unfoldable pub due_value : List ℕ → Result DueStep WireFault
due_value bytes = whole_value due_rows empty_due due_of bytes

unfoldable pub entry_spelling : Entry → List ℕ
entry_spelling entry = spelling entry_rows (entry_read entry)

unfoldable pub entry_value : List ℕ → Result Entry WireFault
entry_value bytes = whole_value entry_rows empty_entry entry_of bytes

-- the record of the step in an entry's spelling
unfoldable pub spelled_step : Step → List ℕ
spelled_step (Take split) = number_record 10 split
spelled_step (Batch reply) = bytes_record 11 (reply_spelling reply)
spelled_step (Register reply) = bytes_record 12 (reply_spelling reply)
spelled_step (Due address moment) = bytes_record 13 (due_spelling (record { address = address; moment = moment }))
