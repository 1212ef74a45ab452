use Rattle.std.proofs.Common.{◌≡◌, ◌+◌, ◌<◌, ◌^◌, length, drop}
use Rattle.proto_wire.specs.Message.{spelled_messages, capped}
use Rattle.folder_messages.specs.Spelling.{entry_spelling}
use Rattle.folder_messages.proofs.complete.entries_size.Given as goal

-- what was counted, and what the entries that are left add
abbrev pub invariant-loop-entry : goal.invariant-loop-entry
invariant-loop-entry l = record {
  counted : capped (l.size + length (spelled_messages entry_spelling l.field (drop l.entry-index l.entries))) ≡ capped (length (spelled_messages entry_spelling l.field l.entries));
  fits : l.size < 2 ^ 64;
}
