use Rattle.std.proofs.Common.{◌∙◌, w32, FitsSigned, rules}
use Rattle.std.proofs.lemmas.Int.{to_z-of_z}
use Rattle.function_server.proofs.Counting.{greets_none, greets_more, greets_all}
use Rattle.function_server.proofs.greeter.greetings.Goals as goal

pub loop-name-init : goal.loop-name-init
loop-name-init c = greets_none _ _ _ (rw (to_z-of_z w32 c.args.count c.ranges.count) c.ranges.count) c.new-records.ensures

pub loop-name-preserved : goal.loop-name-preserved
loop-name-preserved c =
    let fits : FitsSigned w32 c.next_count-now.result = search rules in
    greets_more _ _ _ _ _ _ _ _ _ (rw (to_z-of_z w32 c.args.count c.ranges.count) c.ranges.count) c.loop-name-test.true c.name-item.is
    (to_z-of_z w32 c.next_count-now.result fits ∙ c.next_count-now.ensures) c.in_ok-greeting_to.ensures c.in_ok-push.ensures.ok c.loop-name.invariant

pub returns : goal.returns
returns c = greets_all _ _ _ _ _ _ (to_z-of_z w32 c.args.count c.ranges.count) c.loop-name-test.false c.loop-name.invariant
