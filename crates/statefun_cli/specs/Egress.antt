-- The lines that one step gives to the egress text.
use Rattle.std.specs.Prelude.{ℕ, List, []}
use Rattle.std.specs.Option.{option_map_or}
use Rattle.run_record.specs.declared.entry.Entry.{Entry}
use Rattle.run_record.specs.Machine.{reply_of}
use Rattle.run_record.specs.Egress.{egress_text, records_of_reply}

abbrev pub entry_text : Entry → List ℕ
entry_text entry = egress_text (option_map_or records_of_reply (reply_of entry.step) [])
