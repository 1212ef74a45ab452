use Rattle.std.proofs.Common.{◌∙◌, ◌++◌, ◌∷◌, [], sym, ap, refl, List, option_map}
use Rattle.std.specs.Prelude.{unwrap_or}
use Rattle.typed_values.specs.declared.letter.Sender.TheVariants.{Function}
use Rattle.typed_values.specs.declared.letter.Letter.{Letter}
use Rattle.typed_values.specs.declared.record.Delay.{Delay}
use Rattle.typed_values.specs.Delays.{due_at}
use Rattle.run_record.specs.declared.entry.Step.TheVariants.{Due}
use Rattle.run_record.specs.declared.machine.Machine.{Machine}
use Rattle.run_record.specs.Machine.{arguments_of, later_letter, sent_later, acted}
use Rattle.run_record.specs.StateOf.{state_of, mail_of, egress_in, own_in, after_due}
use Rattle.run_record.proofs.Steps.{some_from_map}
use Rattle.run_record.proofs.Kept.{own_changed, sets_between, unpicked_none, given_none, state_acted}
use Rattle.run_record.proofs.effects.send_due.Goals as goal

pub returns-clause-state : goal.returns-clause-state
unfolding state_of
returns-clause-state c =
    let old = c.args.machine.now in
    let address = c.args.address.now in
    let moment = c.args.moment in
    let new : Machine = record { taken = old.taken; parts = c.forget_nothing.new.self; mail = c.post.new.mail; egress = old.egress } in
    let due = some_from_map (later_letter address) (due_at moment (own_in old.parts address).delays) c.in-Some.letter (sym c.in_ok-letter.ensures ∙ c.in-Some.is) in
    let act = sent_later address moment (own_in old.parts address) due.0 in
    state_acted (Due address moment) act old new
    (own_changed address old.taken.items old.parts new.parts act
    (sets_between address old.parts old.parts c.drop_due.new.self new.parts (after_due moment) (λ other. refl) c.drop_due.ensures c.forget_nothing.ensures))
    (λ sender target.
    c.in_ok-post.ensures.ok sender target
    ∙ ap (λ (letters : List Letter). mail_of old.mail sender target ++ arguments_of sender target letters) (c.of.ensures ∙ c.in_ok-vec.ensures.items ∙ ap (λ (letter : Letter). letter ∷ []) due.2)
    ∙ ap (λ xs. xs ++ arguments_of sender target act.letters) (sym (unpicked_none (Function address) (mail_of old.mail) sender target)))
    (λ address name. sym (given_none (egress_in old.egress) address name))
    ∙ ap (λ o. unwrap_or (option_map (λ (due : Delay × List Delay). acted (Due address moment) (sent_later address moment (own_in old.parts address) due) (state_of old)) o) (state_of old)) (sym due.1)
