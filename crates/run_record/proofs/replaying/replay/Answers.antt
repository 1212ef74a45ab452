use Rattle.std.proofs.Common.{◌≡◌, ◌∙◌, subst, refl, List, Bool, take, get_or, length, ◌<◌}
use Rattle.run_record.specs.declared.entry.Entry.{Entry}
use Rattle.run_record.specs.StateOf.{state_of}
use Rattle.run_record.specs.Replays.{StepsOver}
use Rattle.run_record.proofs.Known.{known_start, known_more, known_on, known_stuck, stuck_at, Grows-itself, Grows-on}
use Rattle.run_record.proofs.replaying.replay.Goals as goal

pub loop-place-init : goal.loop-place-init
loop-place-init g c = record {
  known = known_start (g.I.Ingress.lists c.args.ingress.now) c.args.routes.now (state_of c.in_ok-machine.machine) c.in_ok-machine.ensures;
  grows = Grows-itself (g.I.Ingress.lists c.args.ingress.now);
  counts = refl;
}

pub returns-in_err-replay_step-clause-grows : goal.returns-in_err-replay_step-clause-grows
returns-in_err-replay_step-clause-grows g c = Grows-on (g.I.Ingress.lists c.args.ingress.now) (g.I.Ingress.lists c.loop-place.ingress) (g.I.Ingress.lists c.replay_step.new.ingress) c.loop-place.invariant.grows c.replay_step.ensures.grows

pub returns-then-not-branch-clause-grows : goal.returns-then-not-branch-clause-grows
returns-then-not-branch-clause-grows g c = Grows-on (g.I.Ingress.lists c.args.ingress.now) (g.I.Ingress.lists c.loop-place.ingress) (g.I.Ingress.lists c.replay_step.new.ingress) c.loop-place.invariant.grows c.replay_step.ensures.grows

pub returns-then-not-branch-clause-replays : goal.returns-then-not-branch-clause-replays
returns-then-not-branch-clause-replays g c =
    let told = g.I.Ingress.lists c.replay_step.new.ingress in
    let st = state_of c.loop-place.machine in
    let next = state_of c.replay_step.new.machine in
    let entry = c.entry-item.result in
    let Inside : List Entry → Type 0 = λ items. c.loop-place.place < length items in
    let Stands : List Entry → Type 0 = λ items. entry ≡ get_or items c.loop-place.place entry in
    let P : Bool → Type 0 = λ allowed. StepsOver told c.args.routes.now st entry.step allowed next in
    stuck_at told c.args.routes.now c.args.entries.now st c.loop-place.place entry (subst Inside c.as_slice-entry-items.ensures c.loop-place-test.true) (subst Stands c.as_slice-entry-items.ensures c.entry-item.is)
    (known_stuck (g.I.Ingress.lists c.loop-place.ingress) told c.args.routes.now st next (take c.loop-place.place c.args.entries.now) entry.step c.replay_step.ensures.grows c.loop-place.invariant.known (subst P c.if-not-branch.true c.in_ok-replay_step.ensures.steps))

pub loop-place-preserved : goal.loop-place-preserved
loop-place-preserved g c =
    let told = g.I.Ingress.lists c.replay_step.new.ingress in
    let st = state_of c.loop-place.machine in
    let next = state_of c.replay_step.new.machine in
    let entry = c.entry-item.result in
    let Inside : List Entry → Type 0 = λ items. c.loop-place.place < length items in
    let Stands : List Entry → Type 0 = λ items. entry ≡ get_or items c.loop-place.place entry in
    let P : Bool → Type 0 = λ allowed. StepsOver told c.args.routes.now st entry.step allowed next in
    record {
      known = known_on told c.args.routes.now c.args.entries.now c.loop-place.place entry next (subst Inside c.as_slice-entry-items.ensures c.loop-place-test.true) (subst Stands c.as_slice-entry-items.ensures c.entry-item.is)
          (known_more (g.I.Ingress.lists c.loop-place.ingress) told c.args.routes.now st next (take c.loop-place.place c.args.entries.now) entry c.replay_step.ensures.grows c.loop-place.invariant.known (subst P c.if-not-branch.false c.in_ok-replay_step.ensures.steps));
      grows = Grows-on (g.I.Ingress.lists c.args.ingress.now) (g.I.Ingress.lists c.loop-place.ingress) told c.loop-place.invariant.grows c.replay_step.ensures.grows;
      counts = c.in_ok-replay_step.ensures.cause ∙ c.loop-place.invariant.counts;
    }
