use Rattle.std.proofs.Common.{refl}
use Rattle.run_record.proofs.Same.{one_more}
use Rattle.run_record.proofs.part.same_cells.Goals as goal

pub loop-place-preserved : goal.loop-place-preserved
loop-place-preserved c = (
  one_more c.args.one.now c.args.other.now c.loop-place.place c.at.result.now c.at-in-loop-place.result.now c.at.ensures c.at-in-loop-place.ensures c.loop-place.invariant.0 (c.if-not-same.ensures.0 refl),
  c.loop-place.invariant.1,
)
