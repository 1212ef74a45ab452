use Rattle.std.proofs.Common.{◌≡◌, ◌∙◌, ◌+◌, ◌<◌, ◌≤◌, ℕ, refl, sym, ap, subst, arith}
use Rattle.checkpoint_drive.proofs.Loops.{leg_ends, leg_on, leg_over, legs_spent, none_so_far, same_itself, same_then}
use Rattle.checkpoint_drive.proofs.run.Run.make_legs.Goals as goal

pub loop-init : goal.loop-init
loop-init g c = record {
  so = λ origin. none_so_far c.args.self.now origin _ _;
  ready = c.requires.ready;
  is_known = c.requires.is_known;
  underway = c.requires.underway;
  same = same_itself c.args.self.now;
  counted = refl;
  faults = refl;
}

pub returns-in-Err-clause-legs : goal.returns-in-Err-clause-legs
returns-in-Err-clause-legs g c =
    λ origin. let so = c.loop.invariant.so origin in
    leg_ends c.args.self.now c.loop.self c.make_leg.new.self origin _ _ _ _ _ _ c.loop.invariant.same so c.in-Err.end c.requires.ready.rests
    (subst (λ (n : ℕ). n < c.args.self.now.most) (sym c.loop.invariant.counted) c.loop-test.true) (c.in-Err.ensures.leg so.next)

pub returns-then-over-clause-legs : goal.returns-then-over-clause-legs
returns-then-over-clause-legs g c =
    λ origin. let so = c.loop.invariant.so origin in
    leg_over c.args.self.now c.loop.self origin _ _ _ _ c.loop.invariant.same so c.make_leg.new.self _ _ c.in-Ok.over (c.in-Ok.ensures.leg so.next) c.newest.result c.if-over.true c.newest.ensures.newest

pub loop-preserved : goal.loop-preserved
loop-preserved g c = record {
  so = λ origin. let so = c.loop.invariant.so origin in
      leg_on c.args.self.now c.loop.self origin _ _ _ _ c.loop.invariant.same so c.make_leg.new.self _ _ c.in-Ok.over (c.in-Ok.ensures.leg so.next) c.if-over.false;
  ready = c.in-Ok.ensures.ready;
  is_known = c.in-Ok.ensures.is_known;
  underway = c.in-Ok.ensures.underway;
  same = same_then c.args.self.now c.loop.self c.make_leg.new.self c.loop.invariant.same c.make_leg.ensures.same;
  counted = c.in-Ok.ensures.counted ∙ ap (λ (n : ℕ). n + 1) c.loop.invariant.counted;
  faults = c.in-Ok.ensures.cause ∙ c.loop.invariant.faults;
}

pub returns-clause-legs : goal.returns-clause-legs
returns-clause-legs g c =
    λ origin.
    let few : c.args.self.now.legs ≤ c.args.self.now.most = c.requires.ready.legs in
    let upto : c.loop.counter ≤ c.args.self.now.most = c.loop.auto.counter-end few in
    let beyond : c.args.self.now.most ≤ c.loop.counter = c.loop-test.false in
    let all : c.loop.self.legs ≡ c.args.self.now.most = c.loop.invariant.counted ∙ omega (arith, upto, beyond) in
    legs_spent c.args.self.now c.loop.self origin _ _ _ _ c.loop.invariant.same (c.loop.invariant.so origin) c.newest-2.result c.loop.self.legs all c.newest-2.ensures.newest refl
