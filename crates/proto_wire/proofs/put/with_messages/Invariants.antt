use Rattle.std.proofs.Common.{◌≡◌, ◌++◌, drop}
use Rattle.proto_wire.specs.Message.{spelled_messages, fit_messages}
use Rattle.proto_wire.proofs.put.with_messages.Given as goal

-- what was written, and what the messages that are left add; those so far are fit
abbrev pub invariant-loop-message : goal.invariant-loop-message
invariant-loop-message g l = record {
  spelled : l.into ++ spelled_messages g.M.Encode.spells l.field (drop l.message-index l.messages) ≡ l.initial.into ++ spelled_messages g.M.Encode.spells l.field l.messages;
  fits : fit_messages g.M.Encode.fits (drop l.message-index l.messages) ≡ fit_messages g.M.Encode.fits l.messages;
}
