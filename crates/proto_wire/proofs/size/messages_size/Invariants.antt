use Rattle.std.proofs.Common.{◌≡◌, ◌+◌, ◌<◌, ◌^◌, length, drop}
use Rattle.proto_wire.specs.Message.{spelled_messages, capped}
use Rattle.proto_wire.proofs.size.messages_size.Given as goal

-- what was counted, and what the messages that are left add
abbrev pub invariant-loop-message : goal.invariant-loop-message
invariant-loop-message g l = record {
  counted : capped (l.size + length (spelled_messages g.M.Encode.spells l.field (drop l.message-index l.messages))) ≡ capped (length (spelled_messages g.M.Encode.spells l.field l.messages));
  fits : l.size < 2 ^ 64;
}
