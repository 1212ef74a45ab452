use Rattle.std.proofs.Common.{arith}
use Rattle.std.proofs.lemmas.Grind.{common_steps}
use Rattle.invocation.proofs.Sizing.{state-more}
use Rattle.invocation.proofs.request.state_of.Goals as goal

pub loop-place-preserved : goal.loop-place-preserved
loop-place-preserved c =
    let more = state-more c.args.moment c.args.cells.now c.loop-place.place c.at.result.now c.at.ensures in
    grind (arith, common_steps, more)
