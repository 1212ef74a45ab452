use Rattle.std.proofs.Common.{◌≡◌, ◌∙◌, Bool, is_some}
use Rattle.std.proofs.lemmas.Result.{IfOk-weaker, on_ok_weaker}
use Rattle.typed_values.specs.Delays.{due_at}
use Rattle.typed_values.specs.declared.letter.Sender.TheVariants.{Function}
use Rattle.run_record.specs.declared.entry.Step.TheVariants.{Due}
use Rattle.run_record.specs.Machine.{step_with}
use Rattle.run_record.specs.StateOf.{state_of}
use Rattle.run_record.proofs.Judged.{due_allowed, due_leaves}
use Rattle.run_record.proofs.applying.apply_due.Goals as goal

pub returns-clause-allowed : goal.returns-clause-allowed
returns-clause-allowed c found =
    let st = state_of c.args.machine.now in
    IfOk-weaker c.send_due.result
    (λ (sent : Bool). sent ≡ is_some (due_at c.args.moment (st.own (Function c.args.address.now)).delays))
    (λ (allowed : Bool). allowed ≡ is_some (step_with c.args.routes.now found st (Due c.args.address.now c.args.moment)))
    (λ sent e. e ∙ due_allowed c.args.routes.now found st c.args.address.now c.args.moment) c.send_due.ensures.allowed

pub returns-clause-state : goal.returns-clause-state
returns-clause-state c found =
    on_ok_weaker c.send_due.result (λ e. e ∙ due_leaves c.args.routes.now found (state_of c.args.machine.now) c.args.address.now c.args.moment) c.send_due.ensures.state
