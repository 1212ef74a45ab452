use Rattle.std.proofs.lemmas.Result.{err_from_is_err_and}
use Rattle.request_reply.specs.Feeding.{fed, pieces_joined}
use Rattle.request_reply.proofs.Pieces.{step-taken, step-refused, all-taken, fed-short}
use Rattle.request_reply.proofs.feeder.Feeder.feed_all.Goals as goal

pub returns-in_err-feed : goal.returns-in_err-feed
returns-in_err-feed c =
    let p = err_from_is_err_and c.from_residual.result c.from_residual.ensures.1 in
    rw (p.1, p.2)
    (step-refused c.loop-piece.self c.args.pieces.now c.loop-piece.piece-index c.piece-item.result c.as_slice.result.now c.in_err-feed.field-0.0 (fed c.args.self.now (pieces_joined c.args.pieces.now)) c.loop-piece-test.true c.piece-item.is c.as_slice.ensures c.in_err-feed.ensures.changes c.loop-piece.invariant.goes_on)

pub loop-piece-preserved : goal.loop-piece-preserved
loop-piece-preserved c = record {
  goes_on = step-taken c.loop-piece.self c.feed.new.self c.args.pieces.now c.loop-piece.piece-index c.piece-item.result c.as_slice.result.now (fed c.args.self.now (pieces_joined c.args.pieces.now)) c.loop-piece-test.true c.piece-item.is c.as_slice.ensures c.in_ok-feed.ensures.changes c.loop-piece.invariant.goes_on;
  short = fed-short c.loop-piece.self c.feed.new.self c.as_slice.result.now c.in_ok-feed.ensures.changes;
}

pub returns : goal.returns
returns c = all-taken c.loop-piece.self c.args.pieces.now c.loop-piece.piece-index (fed c.args.self.now (pieces_joined c.args.pieces.now)) c.loop-piece-test.false c.loop-piece.invariant.short c.loop-piece.invariant.goes_on
