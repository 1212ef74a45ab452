use Rattle.std.proofs.Common.{sym, ◌∙◌}
use Rattle.typed_values.specs.Sameness.{same_name}
use Rattle.function_server.proofs.Tabling.{passed, met, none_left, answered_by, answered_by_none}
use Rattle.function_server.proofs.table.answer_in.Goals as goal

pub loop-entry-preserved : goal.loop-entry-preserved
unfolding same_name
loop-entry-preserved g c = passed _ _ _ _ c.loop-entry-test.true c.entry-item.is (sym c.eq.ensures ∙ c.if-eq.false) c.loop-entry.invariant

pub returns-then-eq : goal.returns-then-eq
unfolding same_name
returns-then-eq g c =
    answered_by _ c.args.kind.now c.args.entries.now c.entry-item.result c.args.batch.now _
    (met _ _ _ _ c.loop-entry-test.true c.entry-item.is (sym c.eq.ensures ∙ c.if-eq.true) c.loop-entry.invariant) c.in_ok-answer_of_one.ensures

pub returns : goal.returns
unfolding same_name
returns g c =
    answered_by_none _ c.args.kind.now c.args.entries.now c.args.batch.now (sym c.loop-entry.invariant ∙ none_left _ _ _ c.loop-entry-test.false)
