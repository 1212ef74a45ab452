use Rattle.std.proofs.Common.{sym, ◌∙◌, rules}
use Rattle.yaml_block.proofs.Scanning.{run_fits, plain_past_run, run_goes_on}
use Rattle.yaml_block.proofs.scalars.plain_len.Goals as goal

pub overflow_sub-len : goal.overflow_sub-len
overflow_sub-len c = run_fits c.args.text.now c.loop-len.len c.loop-len.invariant.bound c.past_white-rest.result.now (rw c.from_place.ensures at c.past_white-rest.ensures)

pub loop-len-smaller-then-is_white : goal.loop-len-smaller-then-is_white
loop-len-smaller-then-is_white c = run_goes_on c.args.text.now c.loop-len.len c.past_white-rest.result.now c.loop-len-test.true (sym c.is_white.ensures ∙ c.if-is_white.true) (rw c.from_place.ensures at c.past_white-rest.ensures)

pub loop-len-preserved-then-is_white : goal.loop-len-preserved-then-is_white
loop-len-preserved-then-is_white c = record {
  bound = search rules;
  so_far = plain_past_run c.args.text.now c.loop-len.len c.loop-len.invariant.bound c.past_white-rest.result.now (rw c.from_place.ensures at c.past_white-rest.ensures) _ (sym c.is_end.ensures ∙ c.if-is_end.false) c.loop-len.invariant.so_far;
}
