use Rattle.std.proofs.Common.{◌∙◌, ◌++◌, [], sym, ap, subst, refl}
use Rattle.std.proofs.lemmas.Result.{err_from_is_err_and}
use Rattle.typed_values.specs.declared.letter.Sender.TheVariants.{Function}
use Rattle.run_record.specs.declared.entry.Step.TheVariants.{Register}
use Rattle.run_record.specs.declared.machine.Machine.{Machine}
use Rattle.invocation.specs.Laws.{AreNew}
use Rattle.run_record.specs.Machine.{Own, declared, arguments_of}
use Rattle.run_record.specs.StateOf.{state_of, mail_of, egress_in, own_in, after_registration}
use Rattle.run_record.proofs.Kept.{own_kept, own_changed, sets_between, unpicked_none, posted_none, given_none, same_state, state_acted}
use Rattle.std.specs.BTreeMap.{get}
use Rattle.std.specs.Prelude.{◌≤◌}
use Rattle.keyed_queues.specs.Keys.{address_order}
use Rattle.run_record.specs.declared.part.Part.{Part}
use Rattle.run_record.proofs.Changing.{sets_same, there_is}
use Rattle.run_record.proofs.effects.register.Goals as goal

pub register-requires-clause-there : goal.register-requires-clause-there
register-requires-clause-there c = there_is (λ (part : Part). 0 ≤ part.delays.spare) (get address_order c.reserve.new.self.parts c.args.reply.now.address) c.in_ok-reserve.ensures.room

pub register-requires-clause-new : goal.register-requires-clause-new
unfolding state_of
register-requires-clause-new c = subst (λ (own : Own). AreNew own.cells c.args.specs) (sym (sets_same c.args.machine.now.parts c.reserve.new.self c.args.reply.now.address c.reserve.ensures.same c.args.reply.now.address)) c.requires

pub returns-in_err-reserve-clause-err : goal.returns-in_err-reserve-clause-err
returns-in_err-reserve-clause-err c =
    let old = c.args.machine.now in
    let new : Machine = record { taken = old.taken; parts = c.reserve.new.self; mail = old.mail; egress = old.egress } in
    let p = err_from_is_err_and c.from_residual.result c.from_residual.ensures.1 in
    rw p.1 (same_state new old (own_kept old.taken.items old.taken.items old.parts c.reserve.new.self (λ n. refl) (sets_same old.parts c.reserve.new.self c.args.reply.now.address c.reserve.ensures.same)) (λ sender target. refl) (λ address name. refl))

pub returns-in-Err-clause-err : goal.returns-in-Err-clause-err
returns-in-Err-clause-err c =
    let old = c.args.machine.now in
    let new : Machine = record { taken = old.taken; parts = c.forget_nothing.new.self; mail = old.mail; egress = old.egress } in
    same_state new old
    (own_kept old.taken.items old.taken.items old.parts c.forget_nothing.new.self (λ n. refl)
    (λ address. c.forget_nothing.ensures address ∙ sets_same c.reserve.new.self c.register.new.self c.args.reply.now.address c.in-Err.ensures.err address ∙ sets_same old.parts c.reserve.new.self c.args.reply.now.address c.reserve.ensures.same address))
    (λ sender target. refl) (λ address name. refl)

pub returns-clause-ok : goal.returns-clause-ok
unfolding state_of
returns-clause-ok c =
    let old = c.args.machine.now in
    let address = c.args.reply.now.address in
    let new : Machine = record { taken = old.taken; parts = c.register.new.self; mail = old.mail; egress = old.egress } in
    let act = declared c.args.reply.now c.args.specs (own_in old.parts address) in
    state_acted (Register c.args.reply.now) act old new
    (own_changed address old.taken.items old.parts new.parts act
    (sets_between address old.parts c.reserve.new.self c.register.new.self c.register.new.self (after_registration c.args.reply.now.moment c.args.specs)
    (sets_same old.parts c.reserve.new.self address c.reserve.ensures.same) c.in_default.ensures.ok (λ other. refl)))
    (λ sender target. sym (posted_none (mail_of old.mail) sender target) ∙ ap (λ xs. xs ++ arguments_of sender target []) (sym (unpicked_none (Function address) (mail_of old.mail) sender target)))
    (λ address name. sym (given_none (egress_in old.egress) address name))
