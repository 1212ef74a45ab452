use Rattle.std.proofs.Common.{ap, sym, ◌+◌, drop}
use Rattle.run_record.specs.StateOf.{state_of}
use Rattle.checkpoint_state.specs.Matching.{with_delays}
use Rattle.checkpoint_state.proofs.AtCheckpoint.{one_less}
use Rattle.checkpoint_state.proofs.matching.put_delays.Goals as goal

pub loop-delay-preserved : goal.loop-delay-preserved
loop-delay-preserved c =
    let rest = drop (c.loop-delay.delay-index + 1) c.args.delays.now in
    one_less with_delays c.args.delays.now c.loop-delay.delay-index c.delay-item.result (state_of c.loop-delay.machine) (state_of c.put_delay.new.self) _ c.loop-delay-test.true c.delay-item.is
    (ap (with_delays rest) (sym c.in_ok-put_delay.ensures.ok)) c.loop-delay.invariant
