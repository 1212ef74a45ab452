use Rattle.std.proofs.Common.{◌∙◌, sym, ap, subst, ℕ, ◌<◌, length}
use Rattle.std.proofs.lemmas.Result.{err_from_is_err_and}
use Rattle.typed_values.specs.declared.address.Address.{Address}
use Rattle.invocation.specs.Laws.{TakesAll, AreNew}
use Rattle.run_record.specs.declared.entry.Reply.{Reply}
use Rattle.partition_core.specs.Work.{own_of}
use Rattle.partition_core.specs.Kept.{work_of}
use Rattle.statefun_driver.specs.declared.progress.Progress.{Progress}
use Rattle.statefun_driver.specs.declared.settled.Valid.{Valid}
use Rattle.statefun_driver.specs.Turns.{Control}
use Rattle.statefun_driver.specs.Traces.{Leads}
use Rattle.statefun_driver.specs.Work.{GoesAgain, IsTaken, here, plan_of, replied}
use Rattle.statefun_driver.proofs.Leading.{leads_none}
use Rattle.statefun_driver.proofs.Trying.{replied_wants}
use Rattle.statefun_driver.proofs.Settling.{picks_count, some_flying, reply_is, batch_made, register_made, accepted_leads, missed_leads, goes_again}
use Rattle.statefun_driver.proofs.progress.Progress.settle.Goals as goal

pub serve-requires-clause-flight : goal.serve-requires-clause-flight
unfolding here
serve-requires-clause-flight c =
    let whose = ap (λ (r : Reply). r.address) c.reply-reply.ensures in
    subst (λ (a : Address). 0 < (work_of c.args.self.now.partition).post.in_flight a) (sym whose) (some_flying c.args.job.now.routes c.args.asked.address (here c.args.self.now) c.args.asked c.requires.asked c.requires.some)

pub serve-requires-clause-fits : goal.serve-requires-clause-fits
unfolding here
serve-requires-clause-fits c =
    let whose = ap (λ (r : Reply). r.address) c.reply-reply.ensures in
    subst (λ (a : Address). TakesAll ((work_of c.args.self.now.partition).cells a) c.in-Accepted.effects.mutations) (sym whose)
    (subst (IsTaken ((work_of c.args.self.now.partition).cells c.args.asked.address)) c.in-Accepted.is c.requires.taken)

pub register-requires-clause-flight : goal.register-requires-clause-flight
unfolding here
register-requires-clause-flight c =
    let whose = ap (λ (r : Reply). r.address) c.reply-reply-in-Missed.ensures in
    subst (λ (a : Address). 0 < (work_of c.args.self.now.partition).post.in_flight a) (sym whose) (some_flying c.args.job.now.routes c.args.asked.address (here c.args.self.now) c.args.asked c.requires.asked c.requires.some)

pub register-requires-clause-new : goal.register-requires-clause-new
unfolding here
register-requires-clause-new c =
    let whose = ap (λ (r : Reply). r.address) c.reply-reply-in-Missed.ensures in
    subst (λ (a : Address). AreNew ((work_of c.args.self.now.partition).cells a) c.in-Missed.specs) (sym whose)
    (subst (IsTaken ((work_of c.args.self.now.partition).cells c.args.asked.address)) c.in-Missed.is c.requires.taken).0

pub returns-in_err-egress-in-Accepted-clause-led : goal.returns-in_err-egress-in-Accepted-clause-led
unfolding here
returns-in_err-egress-in-Accepted-clause-led c seen =
    let p = err_from_is_err_and c.from_residual.result c.from_residual.ensures.1 in
    rw (p.1, p.2) (replied_wants (plan_of c.args.job.now) c.args.asked.address c.args.answer (here c.args.self.now) seen tt)

pub returns-in_err-note_batch-in-Accepted-clause-led : goal.returns-in_err-note_batch-in-Accepted-clause-led
unfolding here
returns-in_err-note_batch-in-Accepted-clause-led c seen =
    let p = err_from_is_err_and c.from_residual-in_err-note_batch-in-Accepted.result c.from_residual-in_err-note_batch-in-Accepted.ensures.1 in
    rw (p.1, p.2, c.in_err-note_batch-in-Accepted.ensures.err) (replied_wants (plan_of c.args.job.now) c.args.asked.address c.args.answer (here c.args.self.now) seen tt)

pub returns-in_err-register-in-Missed-clause-led : goal.returns-in_err-register-in-Missed-clause-led
unfolding here
returns-in_err-register-in-Missed-clause-led c seen =
    let p = err_from_is_err_and c.from_residual-in_err-register-in-Missed.result c.from_residual-in_err-register-in-Missed.ensures.1 in
    rw (p.1, p.2) (replied_wants (plan_of c.args.job.now) c.args.asked.address c.args.answer (here c.args.self.now) seen tt)

pub returns-in_err-note-in-Missed-clause-led : goal.returns-in_err-note-in-Missed-clause-led
unfolding here
returns-in_err-note-in-Missed-clause-led c seen =
    let p = err_from_is_err_and c.from_residual-in_err-note-in-Missed.result c.from_residual-in_err-note-in-Missed.ensures.1 in
    rw (p.1, p.2, c.in_err-note-in-Missed.ensures.err) (replied_wants (plan_of c.args.job.now) c.args.asked.address c.args.answer (here c.args.self.now) seen tt)

pub returns-in-Accepted-clause-led : goal.returns-in-Accepted-clause-led
unfolding here
returns-in-Accepted-clause-led c seen =
    let plan = plan_of c.args.job.now in
    let whose = c.args.asked.address in
    let reply = c.reply-reply.result in
    let from = replied plan whose c.args.answer (here c.args.self.now) in
    let made = batch_made c.args.job.now.routes c.args.self.now c.note_batch.new.self c.serve.new.self reply c.in-Accepted.effects c.args.job.now.splits c.args.job.now.all c.in_ok-egress-in-Accepted.ensures.work c.in_ok-note_batch-in-Accepted.ensures.ok in
    let own = reply_is c.args.job.now.routes whose c.args.answer.call (here c.args.self.now) c.args.asked c.in-Accepted.answer reply c.requires.asked c.reply-reply.ensures in
    subst (λ (x : Control). Leads plan from seen x seen)
    (ap (λ (v : Valid). replied plan whose (record { call = c.args.answer.call; valid = v }) (here c.args.self.now)) c.in-Accepted.is
    ∙ accepted_leads plan whose c.args.answer.call (here c.args.self.now) (here c.note_batch.new.self) c.in-Accepted.answer c.in-Accepted.effects reply own made)
    (leads_none plan from seen)

pub returns-clause-led : goal.returns-clause-led
unfolding here
returns-clause-led c seen =
    let plan = plan_of c.args.job.now in
    let whose = c.args.asked.address in
    let reply = c.reply-reply-in-Missed.result in
    let from = replied plan whose c.args.answer (here c.args.self.now) in
    let made = register_made c.args.job.now.routes c.args.self.now c.note.new.self c.register.new.self reply c.in-Missed.specs c.args.job.now.splits c.args.job.now.all c.in_ok-register-in-Missed.ensures.work c.in_ok-note-in-Missed.ensures.ok in
    let own = reply_is c.args.job.now.routes whose c.args.answer.call (here c.args.self.now) c.args.asked c.in-Missed.answer reply c.requires.asked c.reply-reply-in-Missed.ensures in
    let same = picks_count c.args.job.now.routes whose (here c.args.self.now) c.args.asked c.requires.asked ∙ sym c.len-letters.ensures in
    subst (λ (x : Control). Leads plan from seen x seen)
    (ap (λ (v : Valid). replied plan whose (record { call = c.args.answer.call; valid = v }) (here c.args.self.now)) c.in-Missed.is
    ∙ missed_leads plan whose c.args.answer.call (here c.args.self.now) (here c.note.new.self) c.in-Missed.answer c.in-Missed.specs reply c.len-letters.result own made same)
    (leads_none plan from seen)

pub returns-clause-again : goal.returns-clause-again
unfolding here
returns-clause-again c =
    let whose = c.args.asked.address in
    let reply = c.reply-reply-in-Missed.result in
    let work = ap (λ (x : Progress). work_of x.partition) c.in_ok-note-in-Missed.ensures.ok ∙ c.in_ok-register-in-Missed.ensures.work in
    let taken = subst (IsTaken ((work_of c.args.self.now.partition).cells whose)) c.in-Missed.is c.requires.taken in
    subst (λ (n : ℕ). GoesAgain whose (length c.args.asked.batch.picks) (here c.args.self.now) (here c.note.new.self) n) (sym c.len-letters.ensures)
    (goes_again whose (here c.args.self.now) (here c.note.new.self) reply c.in-Missed.specs (own_of (work_of c.args.self.now.partition) reply.address) (length c.args.asked.batch.picks)
    (ap (λ (r : Reply). r.address) c.reply-reply-in-Missed.ensures) work taken.0 taken.1 c.requires.some (picks_count c.args.job.now.routes whose (here c.args.self.now) c.args.asked c.requires.asked))
