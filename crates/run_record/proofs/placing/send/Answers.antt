use Rattle.std.proofs.Common.{◌∙◌, sym, subst, List}
use Rattle.typed_values.specs.declared.name.TypeName.{TypeName}
use Rattle.typed_values.specs.declared.address.Address.{Address}
use Rattle.typed_values.specs.declared.value.TypedValue.{TypedValue}
use Rattle.typed_values.specs.declared.letter.Sender.{Sender}
use Rattle.keyed_queues.specs.declared.shelves.Placed.{Placed}
use Rattle.keyed_queues.specs.Keys.{name_order, address_order, sender_order}
use Rattle.keyed_queues.specs.Queues.{HasBehind}
use Rattle.run_record.specs.StateOf.{mail_of, egress_in}
use Rattle.run_record.proofs.Kept.{mail_posted, egress_given}
use Rattle.run_record.proofs.placing.send.Goals as goal

pub returns-in-Err-clause-no_mail : goal.returns-in-Err-clause-no_mail
returns-in-Err-clause-no_mail c = λ sender target.
    c.withdraw.ensures (λ target sender. mail_of c.args.mail.now sender target) c.in_ok-letters.letters.items
    (sym (c.as_slice.ensures.value ∙ c.in_ok-places.ensures.places)) c.in_ok-places.ensures.ok target sender

pub returns-clause-mail : goal.returns-clause-mail
returns-clause-mail c =
    let old = mail_of c.args.mail.now in
    let new = mail_of c.push_all.new.self in
    mail_posted old new c.args.letters
    (subst (λ (items : List (Placed Address Sender TypedValue)). HasBehind address_order sender_order (λ target sender. old sender target) items (λ target sender. new sender target))
    c.in_ok-letters.ensures c.in_ok-places.ensures.ok)

pub returns-clause-egress : goal.returns-clause-egress
returns-clause-egress c =
    let old = egress_in c.args.egress.now in
    let new = egress_in c.push_all-2.new.self in
    egress_given old new c.args.records
    (subst (λ (items : List (Placed Address TypeName TypedValue)). HasBehind address_order name_order old items new) c.in_ok-records.ensures c.in_default.ensures.ok)
