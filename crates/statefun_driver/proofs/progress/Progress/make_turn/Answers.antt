use Rattle.std.proofs.Common.{ap}
use Rattle.std.proofs.lemmas.Result.{err_from_is_err_and}
use Rattle.statefun_driver.specs.Work.{here}
use Rattle.statefun_driver.proofs.Leading.{leads_then, ends_then, led_then}
use Rattle.statefun_driver.proofs.Dues.{dues_sent, dues_wanting}
use Rattle.statefun_driver.proofs.Turning.{turn_asked}
use Rattle.statefun_driver.proofs.progress.Progress.make_turn.Goals as goal

pub returns-in_err-read_splits-clause-led : goal.returns-in_err-read_splits-clause-led
unfolding here
returns-in_err-read_splits-clause-led g c =
    let old = here c.args.self.now in
    let p = err_from_is_err_and c.from_residual.result c.from_residual.ensures.1 in
    rw (p.1, p.2) (ends_then _ _ _ _ _ _ _ _ (turn_asked _ old _ c.now-now.result _ _ c.now-now.ensures (ap here c.begin.ensures)) c.in_err-read_splits.ensures.led)

pub returns-in_err-send_due-clause-led : goal.returns-in_err-send_due-clause-led
unfolding here
returns-in_err-send_due-clause-led g c =
    let old = here c.args.self.now in
    let p = err_from_is_err_and c.from_residual-in_err-send_due.result c.from_residual-in_err-send_due.ensures.1 in
    rw (p.1, p.2) (dues_wanting _ _ _ (here c.read_splits.new.self) _ _ (leads_then _ _ _ _ _ _ _ (turn_asked _ old _ c.now-now.result _ _ c.now-now.ensures (ap here c.begin.ensures)) c.in_ok-read_splits.ensures.led) c.in_err-send_due.ensures.err)

pub returns-clause-led : goal.returns-clause-led
unfolding here
returns-clause-led g c =
    let old = here c.args.self.now in
    led_then _ _ _ _ _ c.serve.result _ _ _
    (dues_sent _ _ _ (here c.read_splits.new.self) (here c.send_due.new.self) _ c.in_ok-send_due.ensures.ok (leads_then _ _ _ _ _ _ _ (turn_asked _ old _ c.now-now.result _ _ c.now-now.ensures (ap here c.begin.ensures)) c.in_ok-read_splits.ensures.led))
    c.serve.ensures.led
