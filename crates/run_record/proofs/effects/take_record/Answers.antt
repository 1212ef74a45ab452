use Rattle.std.proofs.Common.{◌∙◌, ◌++◌, sym, ap, refl}
use Rattle.std.proofs.lemmas.Result.{err_from_is_err_and}
use Rattle.typed_values.specs.declared.letter.Sender.TheVariants.{Split}
use Rattle.run_record.specs.declared.entry.Step.TheVariants.{Take}
use Rattle.run_record.specs.declared.machine.Machine.{Machine}
use Rattle.run_record.specs.Machine.{took, arguments_of}
use Rattle.run_record.specs.StateOf.{state_of, mail_of, egress_in, own_by}
use Rattle.run_record.proofs.Kept.{own_kept, own_taken, counted_from, unpicked_none, given_none, same_state, state_acted}
use Rattle.run_record.proofs.effects.take_record.Goals as goal

pub returns-in_err-reach-clause-err : goal.returns-in_err-reach-clause-err
returns-in_err-reach-clause-err c =
    let old = c.args.machine.now in
    let new : Machine = record { taken = c.reach.new.taken; parts = old.parts; mail = old.mail; egress = old.egress } in
    let p = err_from_is_err_and c.from_residual-in_err-reach.result c.from_residual-in_err-reach.ensures.1 in
    rw p.1 (same_state new old (own_kept old.taken.items c.reach.new.taken.items old.parts old.parts c.reach.ensures.same (λ address. refl)) (λ sender target. refl) (λ address name. refl))

pub returns-in_err-post-clause-err : goal.returns-in_err-post-clause-err
returns-in_err-post-clause-err c =
    let old = c.args.machine.now in
    let new : Machine = record { taken = c.reach.new.taken; parts = old.parts; mail = c.post.new.mail; egress = old.egress } in
    let p = err_from_is_err_and c.from_residual-in_err-post.result c.from_residual-in_err-post.ensures.1 in
    rw p.1 (same_state new old (own_kept old.taken.items c.reach.new.taken.items old.parts old.parts c.reach.ensures.same (λ address. refl)) c.in_err-post.ensures.err (λ address name. refl))

pub returns-clause-ok : goal.returns-clause-ok
unfolding state_of
returns-clause-ok c =
    let old = c.args.machine.now in
    let new : Machine = record { taken = c.count_one.new.taken; parts = old.parts; mail = c.post.new.mail; egress = old.egress } in
    let act = took c.args.routes.now c.args.split (own_by old.taken.items old.parts (Split c.args.split)) c.args.found in
    state_acted (Take c.args.split) act old new
    (own_taken c.args.split old.taken.items c.count_one.new.taken.items old.parts act (counted_from c.args.split old.taken.items c.reach.new.taken.items c.count_one.new.taken.items c.reach.ensures.same c.count_one.ensures) refl)
    (λ sender target.
    c.in_ok-post.ensures.ok sender target
    ∙ ap (λ letters. mail_of old.mail sender target ++ arguments_of sender target letters) c.in_ok-letters.ensures
    ∙ ap (λ xs. xs ++ arguments_of sender target act.letters) (sym (unpicked_none (Split c.args.split) (mail_of old.mail) sender target)))
    (λ address name. sym (given_none (egress_in old.egress) address name))
