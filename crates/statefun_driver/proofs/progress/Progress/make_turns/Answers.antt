use Rattle.std.proofs.Common.{◌∙◌, ◌+◌, sym, refl, ap, ℕ}
use Rattle.statefun_driver.specs.Turns.{Control, taken_in}
use Rattle.statefun_driver.specs.Work.{here}
use Rattle.statefun_driver.proofs.Leading.{leads_then, ends_then}
use Rattle.statefun_driver.proofs.Turning.{first_turn, turn_on, turns_done, turns_spent, turns_go_on}
use Rattle.statefun_driver.proofs.progress.Progress.make_turns.Goals as goal

pub loop-init : goal.loop-init
unfolding here
loop-init g c = record {
  leads = first_turn _ (here c.args.self.now) _ c.requires.first;
  turn = ap (λ (x : Control). x.turn) c.requires.first;
  counts = refl;
}

pub returns-in-Err : goal.returns-in-Err
unfolding here
returns-in-Err g c = ends_then _ _ _ _ _ _ _ _ (turn_on _ _ _ c.loop.counter (here c.loop.self) _ c.requires.alone c.loop-test.true c.loop.invariant.leads) c.in-Err.ensures.led

pub returns-then-is_done : goal.returns-then-is_done
unfolding here
returns-then-is_done g c =
    turns_done _ _ _ (here c.make_turn.new.self) _ c.taken_in.result c.requires.alone
    (leads_then _ _ _ _ _ _ _ (turn_on _ _ _ c.loop.counter (here c.loop.self) _ c.requires.alone c.loop-test.true c.loop.invariant.leads) c.in_default.ensures.led)
    (sym c.is_done.ensures ∙ c.if-is_done.true) (c.taken_in.ensures ∙ ap taken_in c.as_slice.ensures)

pub loop-preserved : goal.loop-preserved
unfolding here
loop-preserved g c = record {
  leads = turns_go_on _ _ _ c.loop.counter (here c.make_turn.new.self) _ c.requires.alone
      (leads_then _ _ _ _ _ _ _ (turn_on _ _ _ c.loop.counter (here c.loop.self) _ c.requires.alone c.loop-test.true c.loop.invariant.leads) c.in_default.ensures.led)
      (sym c.is_done.ensures ∙ c.if-is_done.false) (c.in_default.ensures.turn ∙ ap (λ (n : ℕ). n + 1) c.loop.invariant.turn);
  turn = c.in_default.ensures.turn ∙ ap (λ (n : ℕ). n + 1) c.loop.invariant.turn;
  counts = c.in_default.ensures.counts ∙ c.loop.invariant.counts;
}

pub returns : goal.returns
unfolding here
returns g c = turns_spent _ _ _ c.loop.counter (here c.loop.self) _ c.taken_in-2.result c.requires.alone c.loop-test.false c.loop.invariant.leads (c.taken_in-2.ensures ∙ ap taken_in c.as_slice-2.ensures)
