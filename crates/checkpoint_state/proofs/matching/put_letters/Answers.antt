use Rattle.std.proofs.Common.{ap, sym, ◌+◌, drop}
use Rattle.run_record.specs.StateOf.{state_of}
use Rattle.checkpoint_state.specs.Matching.{with_letters}
use Rattle.checkpoint_state.proofs.AtCheckpoint.{one_less}
use Rattle.checkpoint_state.proofs.matching.put_letters.Goals as goal

pub loop-letter-preserved : goal.loop-letter-preserved
loop-letter-preserved c =
    let rest = drop (c.loop-letter.letter-index + 1) c.args.letters.now in
    one_less with_letters c.args.letters.now c.loop-letter.letter-index c.letter-item.result (state_of c.loop-letter.machine) (state_of c.put_letter.new.self) _ c.loop-letter-test.true c.letter-item.is
    (ap (with_letters rest) (sym c.in_ok-put_letter.ensures.ok)) c.loop-letter.invariant
