use Rattle.std.proofs.Common.{◌≡◌, ◌≤◌, length, drop}
use Rattle.request_reply.specs.Feeding.{fed, pieces_joined}
use Rattle.request_reply.proofs.feeder.Feeder.feed_all.Given as goal

-- what is left makes of the feeder so far what all pieces make of the first
abbrev pub invariant-loop-piece : goal.invariant-loop-piece
invariant-loop-piece l = record {
  goes_on : fed l.self (pieces_joined (drop l.piece-index l.pieces)) ≡ fed l.initial.self (pieces_joined l.pieces);
  short : length l.self.bytes ≤ l.self.limit;
}
