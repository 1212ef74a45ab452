use Rattle.std.proofs.Common.{◌∙◌, sym, ap, subst, refl}
use Rattle.std.proofs.lemmas.Result.{err_from_is_err_and}
use Rattle.typed_values.specs.declared.letter.Sender.TheVariants.{Function}
use Rattle.run_record.specs.declared.entry.Step.TheVariants.{Batch}
use Rattle.run_record.specs.declared.machine.Machine.{Machine}
use Rattle.invocation.specs.Laws.{TakesAll}
use Rattle.run_record.specs.Machine.{Own, served, unpicked}
use Rattle.run_record.specs.StateOf.{state_of, mail_of, own_in, after_batch}
use Rattle.run_record.proofs.Kept.{own_kept, own_changed, sets_between, posted_before, same_state, state_acted}
use Rattle.run_record.proofs.Changing.{sets_same}
use Rattle.run_record.proofs.effects.serve.Goals as goal

pub returns-in_err-reserve-clause-err : goal.returns-in_err-reserve-clause-err
returns-in_err-reserve-clause-err c =
    let old = c.args.machine.now in
    let new : Machine = record { taken = old.taken; parts = c.reserve.new.self; mail = old.mail; egress = old.egress } in
    let p = err_from_is_err_and c.from_residual.result c.from_residual.ensures.1 in
    rw p.1 (same_state new old (own_kept old.taken.items old.taken.items old.parts c.reserve.new.self (λ n. refl) (sets_same old.parts c.reserve.new.self c.args.reply.now.address c.reserve.ensures.same)) (λ sender target. refl) (λ address name. refl))

pub returns-in-Err-clause-err : goal.returns-in-Err-clause-err
returns-in-Err-clause-err c =
    let old = c.args.machine.now in
    let new : Machine = record { taken = old.taken; parts = c.forget_nothing.new.self; mail = c.send.new.mail; egress = c.send.new.egress } in
    same_state new old
    (own_kept old.taken.items old.taken.items old.parts c.forget_nothing.new.self (λ n. refl) (λ address. c.forget_nothing.ensures address ∙ sets_same old.parts c.reserve.new.self c.args.reply.now.address c.reserve.ensures.same address))
    c.in-Err.ensures.no_mail c.in-Err.ensures.no_egress

pub serve-requires-clause-fits : goal.serve-requires-clause-fits
unfolding state_of
serve-requires-clause-fits c = subst (λ (own : Own). TakesAll own.cells c.args.effects.mutations) (sym (sets_same c.args.machine.now.parts c.reserve.new.self c.args.reply.now.address c.reserve.ensures.same c.args.reply.now.address)) c.requires.fits

pub returns-clause-ok : goal.returns-clause-ok
unfolding state_of
returns-clause-ok c =
    let old = c.args.machine.now in
    let address = c.args.reply.now.address in
    let effects = c.args.effects in
    let new : Machine = record { taken = old.taken; parts = c.forget_nothing-2.new.self; mail = c.drop_picked.new.mail; egress = c.send.new.egress } in
    let act = served c.args.reply.now effects (own_in old.parts address) in
    state_acted (Batch c.args.reply.now) act old new
    (own_changed address old.taken.items old.parts new.parts act
    (sets_between address old.parts c.reserve.new.self c.serve.new.self new.parts (after_batch address c.args.reply.now.moment effects.mutations effects.delays)
    (sets_same old.parts c.reserve.new.self address c.reserve.ensures.same) c.serve.ensures c.forget_nothing-2.ensures))
    (posted_before address c.args.reply.now.picks effects.letters (mail_of old.mail) (mail_of c.send.new.mail) (mail_of c.drop_picked.new.mail) c.requires.picked c.in_default.ensures.mail
    (λ sender target. c.drop_picked.ensures sender target ∙ ap (λ picks. unpicked (Function address) picks (mail_of c.send.new.mail) sender target) c.as_slice.ensures))
    c.in_default.ensures.egress
