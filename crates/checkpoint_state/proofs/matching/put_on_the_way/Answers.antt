use Rattle.std.proofs.Common.{ap, sym, ◌∙◌, ◌+◌, drop, List}
use Rattle.run_record.specs.StateOf.{state_of}
use Rattle.typed_values.specs.declared.letter.Letter.{Letter}
use Rattle.checkpoint_state.specs.Stored.{on_the_way}
use Rattle.checkpoint_state.specs.Matching.{with_letters}
use Rattle.checkpoint_state.proofs.AtCheckpoint.{one_less, letters-append}
use Rattle.checkpoint_state.proofs.matching.put_on_the_way.Goals as goal

pub loop-letters-preserved : goal.loop-letters-preserved
loop-letters-preserved c =
    let rest = drop (c.loop-letters.letters-index + 1) c.args.feedback.now in
    one_less (λ (feedback : List (List Letter)). with_letters (on_the_way feedback)) c.args.feedback.now c.loop-letters.letters-index c.letters-item.result (state_of c.loop-letters.machine) (state_of c.put_letters.new.machine) _ c.loop-letters-test.true c.letters-item.is
    (letters-append c.letters-item.result (on_the_way rest) (state_of c.loop-letters.machine) ∙ ap (with_letters (on_the_way rest)) (ap (λ letters. with_letters letters (state_of c.loop-letters.machine)) (sym c.as_slice.ensures) ∙ sym c.in_ok-put_letters.ensures)) c.loop-letters.invariant
