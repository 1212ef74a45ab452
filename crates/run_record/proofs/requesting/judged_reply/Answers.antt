use Rattle.std.proofs.Common.{◌∙◌, sym, ap, arith, Some}
use Rattle.invocation.specs.Judging.{judgement}
use Rattle.run_record.specs.StateOf.{state_of, own_of, own_in, mail_of}
use Rattle.run_record.proofs.Judged.{late, unasked, asked, fits}
use Rattle.run_record.proofs.requesting.judged_reply.Goals as goal

pub returns-then-reply-part-clause-judged : goal.returns-then-reply-part-clause-judged
unfolding state_of
returns-then-reply-part-clause-judged c =
    late c.args.routes.now (mail_of c.args.machine.now.mail) c.args.reply.now (own_of c.get_or-part.result.now) (own_in c.args.machine.now.parts c.args.reply.now.address) c.get_or-part.ensures (omega (arith, c.if-reply-part.true))

pub returns-then-not-is_there-clause-judged : goal.returns-then-not-is_there-clause-judged
unfolding state_of
returns-then-not-is_there-clause-judged c =
    unasked c.args.routes.now (mail_of c.args.machine.now.mail) c.args.reply.now (own_of c.get_or-part.result.now) (own_in c.args.machine.now.parts c.args.reply.now.address) c.get_or-part.ensures (omega (arith, c.if-reply-part.false))
    (sym c.if-not-is_there.true ∙ c.in_ok-is_there.ensures)

pub returns-clause-judged : goal.returns-clause-judged
unfolding state_of
returns-clause-judged c =
    ap Some (c.in_ok-answer.ensures.judged ∙ ap (judgement c.args.routes.now c.get_or-part.result.now.cells c.args.reply.now.address c.args.reply.now.moment) c.as_slice-bytes.ensures)
    ∙ asked c.args.routes.now (mail_of c.args.machine.now.mail) c.args.reply.now (own_of c.get_or-part.result.now) (own_in c.args.machine.now.parts c.args.reply.now.address) c.get_or-part.ensures (omega (arith, c.if-reply-part.false))
    (sym c.if-not-is_there.false ∙ c.in_ok-is_there.ensures)

pub returns-clause-fits : goal.returns-clause-fits
unfolding state_of
returns-clause-fits c =
    fits c.args.routes.now (mail_of c.args.machine.now.mail) c.args.reply.now (own_of c.get_or-part.result.now) (own_in c.args.machine.now.parts c.args.reply.now.address) c.get_or-part.ensures c.in_ok-answer.answer c.in_ok-answer.ensures.fits
