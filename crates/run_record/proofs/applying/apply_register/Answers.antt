use Rattle.std.proofs.Common.{◌∙◌, sym, ap, Some}
use Rattle.run_record.specs.StateOf.{state_of}
use Rattle.run_record.proofs.Applied.{register_unasked, register_accepts, register_flaw, register_done}
use Rattle.run_record.proofs.applying.apply_register.Goals as goal

pub returns-in_default-clause-allowed : goal.returns-in_default-clause-allowed
returns-in_default-clause-allowed c found =
    (register_unasked c.args.routes.now found (state_of c.args.machine.now) c.args.reply.now (sym c.in_default.is ∙ c.in_ok-judged.ensures.judged)).0

pub returns-in_default-clause-state : goal.returns-in_default-clause-state
returns-in_default-clause-state c found =
    (register_unasked c.args.routes.now found (state_of c.args.machine.now) c.args.reply.now (sym c.in_default.is ∙ c.in_ok-judged.ensures.judged)).1

pub returns-in-Accept-clause-allowed : goal.returns-in-Accept-clause-allowed
returns-in-Accept-clause-allowed c found =
    (register_accepts c.args.routes.now found (state_of c.args.machine.now) c.args.reply.now c.in-Accept._effects
    (sym (ap Some c.in-Accept.is) ∙ sym c.in-Some.is ∙ c.in_ok-judged.ensures.judged)).0

pub returns-in-Accept-clause-state : goal.returns-in-Accept-clause-state
returns-in-Accept-clause-state c found =
    (register_accepts c.args.routes.now found (state_of c.args.machine.now) c.args.reply.now c.in-Accept._effects
    (sym (ap Some c.in-Accept.is) ∙ sym c.in-Some.is ∙ c.in_ok-judged.ensures.judged)).1

pub returns-in_ok-register-in-Register-clause-allowed : goal.returns-in_ok-register-in-Register-clause-allowed
returns-in_ok-register-in-Register-clause-allowed c found =
    (register_done c.args.routes.now found (state_of c.args.machine.now) c.args.reply.now (state_of c.register.new.machine) c.in-Register.specs
    (sym (ap Some c.in-Register.is) ∙ sym c.in-Some.is ∙ c.in_ok-judged.ensures.judged) c.in_ok-register-in-Register.ensures.ok).0

pub returns-in_ok-register-in-Register-clause-state : goal.returns-in_ok-register-in-Register-clause-state
returns-in_ok-register-in-Register-clause-state c found =
    (register_done c.args.routes.now found (state_of c.args.machine.now) c.args.reply.now (state_of c.register.new.machine) c.in-Register.specs
    (sym (ap Some c.in-Register.is) ∙ sym c.in-Some.is ∙ c.in_ok-judged.ensures.judged) c.in_ok-register-in-Register.ensures.ok).1

pub returns-in-Flaw-clause-allowed : goal.returns-in-Flaw-clause-allowed
returns-in-Flaw-clause-allowed c found =
    (register_flaw c.args.routes.now found (state_of c.args.machine.now) c.args.reply.now c.in-Flaw._flaw
    (sym (ap Some c.in-Flaw.is) ∙ sym c.in-Some.is ∙ c.in_ok-judged.ensures.judged)).0

pub returns-in-Flaw-clause-state : goal.returns-in-Flaw-clause-state
returns-in-Flaw-clause-state c found =
    (register_flaw c.args.routes.now found (state_of c.args.machine.now) c.args.reply.now c.in-Flaw._flaw
    (sym (ap Some c.in-Flaw.is) ∙ sym c.in-Some.is ∙ c.in_ok-judged.ensures.judged)).1
