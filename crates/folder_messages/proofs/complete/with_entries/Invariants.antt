use Rattle.std.proofs.Common.{◌≡◌, ◌++◌, drop}
use Rattle.proto_wire.specs.Message.{fit, spelled_messages, fit_messages}
use Rattle.folder_messages.specs.Entries.{entry_rows, entry_read}
use Rattle.folder_messages.specs.Spelling.{entry_spelling}
use Rattle.folder_messages.proofs.complete.with_entries.Given as goal

-- what was written, and what the entries that are left add; those so far are fit
abbrev pub invariant-loop-entry : goal.invariant-loop-entry
invariant-loop-entry l = record {
  spelled : l.into ++ spelled_messages entry_spelling l.field (drop l.entry-index l.entries) ≡ l.initial.into ++ spelled_messages entry_spelling l.field l.entries;
  fits : fit_messages (λ entry. fit entry_rows (entry_read entry)) (drop l.entry-index l.entries) ≡ fit_messages (λ entry. fit entry_rows (entry_read entry)) l.entries;
}
