use Rattle.std.proofs.Common.{◌∙◌, sym, subst, List, [], length}
use Rattle.std.proofs.lemmas.Result.{err_from_is_err_and, IfOk-weaker}
use Rattle.typed_values.specs.declared.address.Address.{Address}
use Rattle.typed_values.specs.declared.cells.Cell.{Cell}
use Rattle.statefun_driver.specs.Turns.{open_batch}
use Rattle.statefun_driver.specs.Traces.{Leads, Ends}
use Rattle.statefun_driver.specs.Work.{IfAgain, IsAskedIn, IsTaken, LedBy, here, opening_at, plan_of, replied, served_on}
use Rattle.statefun_driver.proofs.Leading.{leads_then, ends_then}
use Rattle.statefun_driver.proofs.Trying.{led_by_then, asked_still, cells_still}
use Rattle.statefun_driver.proofs.Serving.{again_from}
use Rattle.statefun_driver.proofs.progress.Progress.serve_batch.Goals as goal

pub returns-in_err-answer-clause-led : goal.returns-in_err-answer-clause-led
returns-in_err-answer-clause-led g c =
    let p = err_from_is_err_and c.from_residual-in_err-answer.result c.from_residual-in_err-answer.ensures.1 in
    let plan = plan_of c.args.job.now in
    let from = open_batch plan c.args.address.now c.args.most (here c.args.self.now) in
    let seen = g.O.Outside.seen c.args.outside.now in
    rw (p.1, p.2) (ends_then plan from seen (opening_at c.args.address.now [] (here c.open.new.self)) seen c.exchange.new.self.entries c.in_err-answer.field-0.0 (g.O.Outside.seen c.exchange.new.outside)
    (c.in_ok-asked.ensures.led seen)
    (subst (λ (a : Address). Ends plan (opening_at a [] (here c.open.new.self)) seen c.exchange.new.self.entries c.in_err-answer.field-0.0 (g.O.Outside.seen c.exchange.new.outside)) c.in_ok-asked.ensures.asked.whose c.in_err-answer.ensures.led))

pub settle-requires-clause-asked : goal.settle-requires-clause-asked
settle-requires-clause-asked g c =
    asked_still c.args.job.now.routes c.in_ok-asked.asked.address c.open.new.self c.exchange.new.self c.in_ok-asked.asked c.exchange.ensures.kept
    (let h = c.in_ok-asked.ensures.asked in subst (λ (a : Address). IsAskedIn c.args.job.now.routes a (here c.open.new.self) c.in_ok-asked.asked) (sym h.whose) h)

pub settle-requires-clause-taken : goal.settle-requires-clause-taken
settle-requires-clause-taken g c =
    subst (λ (f : Address → List Cell). IsTaken (f c.in_ok-asked.asked.address) c.in_ok-answer.answer.valid) (sym (cells_still c.open.new.self c.exchange.new.self c.exchange.ensures.kept)) c.in_ok-answer.ensures.taken

pub returns-clause-led : goal.returns-clause-led
returns-clause-led g c =
    let plan = plan_of c.args.job.now in
    let from = open_batch plan c.args.address.now c.args.most (here c.args.self.now) in
    let seen = g.O.Outside.seen c.args.outside.now in
    let last = g.O.Outside.seen c.exchange.new.outside in
    let there = replied plan c.in_ok-asked.asked.address c.in_ok-answer.answer (here c.exchange.new.self) in
    let whose = c.in_ok-asked.ensures.asked.whose in
    led_by_then plan from seen there last c.settle.result (λ again. served_on plan c.args.address.now again (here c.settle.new.self)) c.settle.new.self.entries last
    (leads_then plan from seen (opening_at c.args.address.now [] (here c.open.new.self)) seen there last (c.in_ok-asked.ensures.led seen)
    (subst (λ (a : Address). Leads plan (opening_at a [] (here c.open.new.self)) seen there last) whose c.in_ok-answer.ensures.led))
    (subst (λ (a : Address). LedBy plan there last c.settle.result (λ again. served_on plan a again (here c.settle.new.self)) c.settle.new.self.entries last) whose (c.settle.ensures.led last))

pub returns-clause-again : goal.returns-clause-again
returns-clause-again g c =
    let whose = c.in_ok-asked.ensures.asked.whose in
    let count = length c.in_ok-asked.asked.batch.picks in
    let cells = cells_still c.open.new.self c.exchange.new.self c.exchange.ensures.kept ∙ c.in_ok-asked.ensures.cells in
    IfOk-weaker c.settle.result (λ again. IfAgain c.in_ok-asked.asked.address count (here c.exchange.new.self) (here c.settle.new.self) again)
    (λ again. IfAgain c.args.address.now c.args.most (here c.args.self.now) (here c.settle.new.self) again)
    (λ again h. again_from c.args.address.now c.args.most count (here c.args.self.now) (here c.exchange.new.self) (here c.settle.new.self) again c.in_ok-asked.ensures.fewer cells
    (subst (λ (a : Address). IfAgain a count (here c.exchange.new.self) (here c.settle.new.self) again) whose h))
    c.settle.ensures.again
