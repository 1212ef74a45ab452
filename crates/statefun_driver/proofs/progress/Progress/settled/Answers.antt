use Rattle.std.proofs.Common.{◌∙◌, sym, ap}
use Rattle.partition_core.specs.Kept.{work_of}
use Rattle.invocation.specs.Judging.{judgement}
use Rattle.statefun_driver.specs.Turns.{came_of}
use Rattle.statefun_driver.specs.Work.{came_as, here}
use Rattle.statefun_driver.proofs.Trying.{came_judged}
use Rattle.statefun_driver.proofs.progress.Progress.settled.Goals as goal
use Rattle.statefun_driver.proofs.progress.Progress.settled.Goals.{in-Accept, in-Register, in-Flaw}

pub returns : goal.returns
unfolding here
returns c =
    let cells = (work_of c.args.self.now.partition).cells c.args.address.now in
    let own = c.in_ok-judged.ensures.judged ∙ ap (judgement c.args.job.now.routes cells c.args.address.now c.args.self.now.moment) c.as_slice.ensures in
    let what = came_judged c.args.job.now.routes (here c.args.self.now) c.args.address.now c.args.told c.in-Some-Answer.field-0 c.in-Some-Answer.answer c.in_ok-judged.judged c.in-Some-Answer.is c.in-Some-Answer.field-0-is own in
    elim c.match-judged.branch [
      | in-Accept w ↦ ap came_as w.result-is ∙ sym (what ∙ ap (came_of c.in-Some-Answer.answer) w.in-Accept.is)
      | in-Register w ↦ ap came_as w.result-is ∙ sym (what ∙ ap (came_of c.in-Some-Answer.answer) w.in-Register.is)
      | in-Flaw w ↦ ap came_as w.result-is ∙ sym (what ∙ ap (came_of c.in-Some-Answer.answer) w.in-Flaw.is)
    ]
