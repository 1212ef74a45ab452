use Rattle.statefun_driver.specs.Work.{here, plan_of}
use Rattle.statefun_driver.proofs.Turning.{driven_rests, led_driven}
use Rattle.statefun_driver.proofs.progress.Progress.leg.Goals as goal

pub make_turn-requires-clause-turn : goal.make_turn-requires-clause-turn
unfolding here
make_turn-requires-clause-turn g c = c.requires.turn

pub returns-clause-turn : goal.returns-clause-turn
unfolding here
returns-clause-turn g c = c.make_turn.ensures.turn

pub returns-clause-led : goal.returns-clause-led
unfolding here
returns-clause-led g c =
    let plan = plan_of c.args.job.now in
    led_driven plan _ _ c.make_turn.result (here c.make_turn.new.self) _ _ _ (driven_rests plan (here c.make_turn.new.self) c.requires.driven) c.make_turn.ensures.led
