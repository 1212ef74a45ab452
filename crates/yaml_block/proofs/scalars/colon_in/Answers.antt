use Rattle.std.proofs.Common.{sym, ◌∙◌, rules}
use Rattle.yaml_block.proofs.Scanning.{run_fits, cut_past_run, cut_past_byte, run_goes_on}
use Rattle.yaml_block.proofs.scalars.colon_in.Goals as goal

pub overflow_sub-at : goal.overflow_sub-at
overflow_sub-at c = run_fits c.args.text.now c.loop-at.at c.loop-at.invariant.bound c.past_white-rest.result.now (rw c.from_place.ensures at c.past_white-rest.ensures)

pub loop-at-smaller-then-is_white : goal.loop-at-smaller-then-is_white
loop-at-smaller-then-is_white c = run_goes_on c.args.text.now c.loop-at.at c.past_white-rest.result.now c.loop-at-test.true (sym c.is_white.ensures ∙ c.if-is_white.true) (rw c.from_place.ensures at c.past_white-rest.ensures)

pub loop-at-preserved-then-is_white : goal.loop-at-preserved-then-is_white
loop-at-preserved-then-is_white c = record {
  bound = search rules;
  so_far = cut_past_run c.args.text.now c.loop-at.at c.loop-at.invariant.bound c.past_white-rest.result.now (rw c.from_place.ensures at c.past_white-rest.ensures) _ (sym c.is_end.ensures ∙ c.if-is_end.false) c.loop-at.invariant.so_far;
}

pub loop-at-preserved : goal.loop-at-preserved
loop-at-preserved c = record {
  bound = search rules;
  so_far = cut_past_byte c.args.text.now c.loop-at.at _ c.loop-at-test.true (sym c.is_white.ensures ∙ c.if-is_white.false) (sym c.is_colon_at.ensures ∙ c.if-is_colon_at.false) c.loop-at.invariant.so_far;
}
