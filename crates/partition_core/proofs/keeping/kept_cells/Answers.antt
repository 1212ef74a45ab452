use Rattle.std.proofs.Common.{arith}
use Rattle.std.proofs.lemmas.Grind.{common_steps}
use Rattle.partition_core.proofs.KeptCells.{one_more}
use Rattle.partition_core.proofs.keeping.kept_cells.Goals as goal

pub loop-place-preserved : goal.loop-place-preserved
loop-place-preserved c =
    let more = one_more c.args.cells.now c.loop-place.place c.at.result.now c.at.ensures in
    grind (arith, common_steps, more)
