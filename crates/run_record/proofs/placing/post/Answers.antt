use Rattle.std.proofs.Common.{subst, List}
use Rattle.typed_values.specs.declared.address.Address.{Address}
use Rattle.typed_values.specs.declared.value.TypedValue.{TypedValue}
use Rattle.typed_values.specs.declared.letter.Sender.{Sender}
use Rattle.keyed_queues.specs.declared.shelves.Placed.{Placed}
use Rattle.keyed_queues.specs.Keys.{address_order, sender_order}
use Rattle.keyed_queues.specs.Queues.{HasBehind}
use Rattle.run_record.specs.StateOf.{mail_of}
use Rattle.run_record.proofs.Kept.{mail_posted}
use Rattle.run_record.proofs.placing.post.Goals as goal

pub returns-clause-ok : goal.returns-clause-ok
returns-clause-ok c =
    let old = mail_of c.args.mail.now in
    let new = mail_of c.push_all.new.self in
    mail_posted old new c.args.letters
    (subst (λ (items : List (Placed Address Sender TypedValue)). HasBehind address_order sender_order (λ target sender. old sender target) items (λ target sender. new sender target))
    c.in_ok-items.ensures c.in_ok-_places.ensures.ok)
