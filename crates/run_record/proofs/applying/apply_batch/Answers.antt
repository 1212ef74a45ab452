use Rattle.std.proofs.Common.{◌∙◌, sym, ap, subst, Option, Some}
use Rattle.std.specs.Prelude.{IfSome}
use Rattle.typed_values.specs.declared.letter.Sender.TheVariants.{Function}
use Rattle.invocation.specs.declared.judging.Judged.{Judged}
use Rattle.invocation.specs.declared.judging.Judged.TheVariants.{Accept}
use Rattle.invocation.specs.Laws.{Fits}
use Rattle.run_record.specs.StateOf.{state_of}
use Rattle.run_record.proofs.Judged.{letters_there}
use Rattle.run_record.proofs.Applied.{batch_unasked, batch_registers, batch_flaw, batch_done}
use Rattle.run_record.proofs.applying.apply_batch.Goals as goal

pub serve-requires-clause-picked : goal.serve-requires-clause-picked
serve-requires-clause-picked c =
    letters_there c.args.routes.now (state_of c.args.machine.now) c.args.reply.now (Accept c.in-Accept.effects)
    (sym (ap Some c.in-Accept.is) ∙ sym c.in-Some.is ∙ c.in_ok-judged.ensures.judged)

pub serve-requires-clause-fits : goal.serve-requires-clause-fits
serve-requires-clause-fits c =
    let cells = ((state_of c.args.machine.now).own (Function c.args.reply.now.address)).cells in
    subst (Fits cells) c.in-Accept.is (subst (λ (o : Option Judged). IfSome o (Fits cells)) c.in-Some.is c.in_ok-judged.ensures.fits)

pub returns-in_default-clause-allowed : goal.returns-in_default-clause-allowed
returns-in_default-clause-allowed c found =
    (batch_unasked c.args.routes.now found (state_of c.args.machine.now) c.args.reply.now (sym c.in_default.is ∙ c.in_ok-judged.ensures.judged)).0

pub returns-in_default-clause-state : goal.returns-in_default-clause-state
returns-in_default-clause-state c found =
    (batch_unasked c.args.routes.now found (state_of c.args.machine.now) c.args.reply.now (sym c.in_default.is ∙ c.in_ok-judged.ensures.judged)).1

pub returns-in_ok-serve-in-Accept-clause-allowed : goal.returns-in_ok-serve-in-Accept-clause-allowed
returns-in_ok-serve-in-Accept-clause-allowed c found =
    (batch_done c.args.routes.now found (state_of c.args.machine.now) c.args.reply.now (state_of c.serve.new.machine) c.in-Accept.effects
    (sym (ap Some c.in-Accept.is) ∙ sym c.in-Some.is ∙ c.in_ok-judged.ensures.judged) c.in_ok-serve-in-Accept.ensures.ok).0

pub returns-in_ok-serve-in-Accept-clause-state : goal.returns-in_ok-serve-in-Accept-clause-state
returns-in_ok-serve-in-Accept-clause-state c found =
    (batch_done c.args.routes.now found (state_of c.args.machine.now) c.args.reply.now (state_of c.serve.new.machine) c.in-Accept.effects
    (sym (ap Some c.in-Accept.is) ∙ sym c.in-Some.is ∙ c.in_ok-judged.ensures.judged) c.in_ok-serve-in-Accept.ensures.ok).1

pub returns-in-Register-clause-allowed : goal.returns-in-Register-clause-allowed
returns-in-Register-clause-allowed c found =
    (batch_registers c.args.routes.now found (state_of c.args.machine.now) c.args.reply.now c.in-Register._specs
    (sym (ap Some c.in-Register.is) ∙ sym c.in-Some.is ∙ c.in_ok-judged.ensures.judged)).0

pub returns-in-Register-clause-state : goal.returns-in-Register-clause-state
returns-in-Register-clause-state c found =
    (batch_registers c.args.routes.now found (state_of c.args.machine.now) c.args.reply.now c.in-Register._specs
    (sym (ap Some c.in-Register.is) ∙ sym c.in-Some.is ∙ c.in_ok-judged.ensures.judged)).1

pub returns-in-Flaw-clause-allowed : goal.returns-in-Flaw-clause-allowed
returns-in-Flaw-clause-allowed c found =
    (batch_flaw c.args.routes.now found (state_of c.args.machine.now) c.args.reply.now c.in-Flaw._flaw
    (sym (ap Some c.in-Flaw.is) ∙ sym c.in-Some.is ∙ c.in_ok-judged.ensures.judged)).0

pub returns-in-Flaw-clause-state : goal.returns-in-Flaw-clause-state
returns-in-Flaw-clause-state c found =
    (batch_flaw c.args.routes.now found (state_of c.args.machine.now) c.args.reply.now c.in-Flaw._flaw
    (sym (ap Some c.in-Flaw.is) ∙ sym c.in-Some.is ∙ c.in_ok-judged.ensures.judged)).1
