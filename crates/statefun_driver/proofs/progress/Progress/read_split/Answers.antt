use Rattle.std.proofs.Common.{◌∙◌}
use Rattle.std.proofs.lemmas.Result.{err_from_is_err_and}
use Rattle.statefun_driver.specs.Work.{here}
use Rattle.statefun_driver.proofs.Recorded.{count_at}
use Rattle.statefun_driver.proofs.Rows.{row_failed, row_none, row_large, row_taken, row_wanting, rows_spent}
use Rattle.statefun_driver.proofs.progress.Progress.read_split.Goals as goal

pub returns-in_err-found-clause-led : goal.returns-in_err-found-clause-led
unfolding here
returns-in_err-found-clause-led g c = let p = err_from_is_err_and c.from_residual.result c.from_residual.ensures.1 in
    rw (p.1, p.2) (row_failed _ _ _ c.args.split c.loop.counter (here c.loop.self) _ _ _ (record { leads = c.loop.invariant.leads; few = c.loop-test.true }) c.in_err-found.ensures.1)

pub returns-in_default-clause-led : goal.returns-in_default-clause-led
unfolding here
returns-in_default-clause-led g c = row_none _ _ _ c.args.split c.loop.counter (here c.loop.self) (g.O.Outside.seen c.loop.outside) _ (record { leads = c.loop.invariant.leads; few = c.loop-test.true })
    (record { offset = c.index-offset.result.now; next = (count_at c.loop.self c.args.split c.args.job.now.splits c.index-offset.result.now c.requires.split (c.loop.invariant.counts ∙ c.requires.counts) c.index-offset.ensures); answer = c.in_ok-found.field-0; answer_is = c.in_default.is; heard = c.in_ok-found.ensures })

pub returns-then-size-gt-LONGEST-clause-led : goal.returns-then-size-gt-LONGEST-clause-led
unfolding here
returns-then-size-gt-LONGEST-clause-led g c = row_large _ _ _ c.args.split c.loop.counter (here c.loop.self) (g.O.Outside.seen c.loop.outside) c.in-Some.found _ (record { leads = c.loop.invariant.leads; few = c.loop-test.true })
    (record { offset = c.index-offset.result.now; next = (count_at c.loop.self c.args.split c.args.job.now.splits c.index-offset.result.now c.requires.split (c.loop.invariant.counts ∙ c.requires.counts) c.index-offset.ensures); answer = c.in_ok-found.field-0; answer_is = c.in-Some.is; heard = c.in_ok-found.ensures }) c.size_of-size.result c.size_of-size.ensures c.if-size-gt-LONGEST.true

pub returns-in_err-take-clause-led : goal.returns-in_err-take-clause-led
unfolding here
returns-in_err-take-clause-led g c = let p = err_from_is_err_and c.from_residual-in_err-take.result c.from_residual-in_err-take.ensures.1 in
    rw (p.1, p.2) (row_wanting _ _ _ c.args.split c.loop.counter (here c.loop.self) (g.O.Outside.seen c.loop.outside) c.in-Some.found _ (record { leads = c.loop.invariant.leads; few = c.loop-test.true })
    (record { offset = c.index-offset.result.now; next = (count_at c.loop.self c.args.split c.args.job.now.splits c.index-offset.result.now c.requires.split (c.loop.invariant.counts ∙ c.requires.counts) c.index-offset.ensures); answer = c.in_ok-found.field-0; answer_is = c.in-Some.is; heard = c.in_ok-found.ensures }) c.size_of-size.result c.size_of-size.ensures c.if-size-gt-LONGEST.false _ c.in_err-take.ensures.err)

pub loop-preserved : goal.loop-preserved
unfolding here
loop-preserved g c = record {
  leads = row_taken _ _ _ c.args.split c.loop.counter (here c.loop.self) (g.O.Outside.seen c.loop.outside) c.in-Some.found _ (record { leads = c.loop.invariant.leads; few = c.loop-test.true })
      (record { offset = c.index-offset.result.now; next = (count_at c.loop.self c.args.split c.args.job.now.splits c.index-offset.result.now c.requires.split (c.loop.invariant.counts ∙ c.requires.counts) c.index-offset.ensures); answer = c.in_ok-found.field-0; answer_is = c.in-Some.is; heard = c.in_ok-found.ensures }) c.size_of-size.result c.size_of-size.ensures c.if-size-gt-LONGEST.false (here c.take.new.self) c.in_ok-take.ensures.ok;
  counts = c.take.ensures.counts ∙ c.loop.invariant.counts;
  calls = c.take.ensures.calls ∙ c.loop.invariant.calls;
  turn = c.take.ensures.turn ∙ c.loop.invariant.turn;
}

pub returns-clause-led : goal.returns-clause-led
unfolding here
returns-clause-led g c = rows_spent _ _ _ c.args.split c.loop.counter (here c.loop.self) _ c.loop-test.false c.loop.invariant.leads
