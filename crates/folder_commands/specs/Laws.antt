-- What is read of a log that was appended to.
use Rattle.std.specs.Prelude.{◌≡◌, ◌<◌, ◌^◌, ℕ, true, List, [], ◌∷◌, ◌++◌, length, drop, slice_get}
use Rattle.std.specs.List.{AllByRecursion}
use Rattle.proto_wire.specs.Message.{fit, spelling}
use Rattle.sf_outside.specs.declared.ingress.IngressRecord.{IngressRecord}
use Rattle.sf_outside.specs.declared.front.Front.TheVariants.{Whole}
use Rattle.sf_outside.specs.Log.{front_of, log_record, record_rows}
use Rattle.folder_commands.specs.LogText.{log_text}
use Rattle.folder_commands.specs.Lines.{records_in}

-- a log is of these records, one behind the other, and of nothing else
abbrev pub HasRecords : List ℕ → List IngressRecord → Type 0
HasRecords log [] = log ≡ []
HasRecords log (first ∷ records) = (len : ℕ) × (front_of log ≡ Whole first len) × HasRecords (drop len log) records

-- a key is UTF-8, and a message has a length of 64 bits
abbrev pub IsLoggable : IngressRecord → Type 0
IsLoggable made = (fit record_rows made ≡ true) × (length (spelling record_rows made) < 2 ^ 64)

-- a log that is of records is, once others were appended, of these and those
abbrev pub AppendedBehind : Type 0
AppendedBehind = (log : List ℕ) (old new : List IngressRecord) → HasRecords log old → AllByRecursion IsLoggable new → HasRecords (log ++ log_text new) (old ++ new)

-- and what a log is of is what is read of it, by number
abbrev pub ReadsAll : Type 0
ReadsAll = (log : List ℕ) (records : List IngressRecord) → HasRecords log records → (number : ℕ) → log_record number log ≡ slice_get records number
